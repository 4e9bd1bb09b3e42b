-- What one token does to what was read of a type, and its ways out.
use Rattle.std.proofs.Common.{◌≡◌, inl, inr, ℕ, ◌+◌, ◌*◌, ◌≤◌, ◌<◌, Option, Some, None, List, [], ◌∷◌, ◌++◌, length, refl, sym, ap, subst, append_assoc, ◌∙◌, arith}
use Rattle.hol_terms.specs.declared.ty.Ty.{Ty}
use Rattle.hol_terms.specs.declared.ty.Ty.TheVariants as types
use Rattle.theory_terms.specs.Words.{place}
use Rattle.proof_syntax.specs.declared.fault.PartFault.{PartFault}
use Rattle.proof_syntax.specs.declared.fault.PartFault.TheVariants as fault
use Rattle.proof_syntax.specs.Tokens.{Tok, Word, Mark, Greater, OpenRound, CloseRound, cut, open_round, greater, close_round}
use Rattle.proof_syntax.specs.Names.{Names, number_of}
use Rattle.proof_syntax.specs.Grammar.{Placed, at, most, name_level, arrow}
use Rattle.proof_syntax.specs.Machine.{Frame, From, To, level, WantType, end_type, step, to, have_type}
use Rattle.proof_syntax.specs.Parts.{GotType, FailsType, BegunType, Below, wants_type, IsNot, NoWord}
use Rattle.proof_syntax.proofs.Inside.{Refuses}
use Rattle.proof_terms.specs.declared.sides.Side.{Side}
use Rattle.proof_terms.specs.declared.sides.Side.TheVariants as side
use Rattle.proof_terms.specs.inner.Turns.{Begins, FailsToBegin, TurnsRight, Closes, FailsToGoOn}
use Rattle.proof_terms.proofs.Front.{sign_shorter, word_shorter}
use Rattle.proof_terms.proofs.Passed.{nothing, one, stops, stops_but, goes_beyond}
use Rattle.proof_terms.proofs.Around.{Around, outside, left, right, SoFar, within, state_of, level_within, begun, begun_part, closes, nothing_around, left_of, right_of, base_of, base_unknown}

module _ (names : Names) (l : ℕ) (room : l ≤ most) (text : List ℕ) where
  levels : (s : List Side) (i : Below l) → level (within s i.frames) ≡ l
  levels s i = level_within s i.frames ∙ i.is_level

  pub start : SoFar names l text [] None text
  start = record { placed = []; come = outside; passed = nothing names (Below l) (wants_type l) text }

  -- ---- where a type is wanted

  named : (k : List Frame) (n : ℕ) (x : List ℕ) → place x names.types ≡ Some n → step names (WantType k) (Word x) ≡ to (level k) (end_type (types.Base n) k)
  named k n x e = ap (λ o. to (name_level (level k) o) (end_type (types.Base (number_of o)) k)) e

  pub began : (old new : List Side) (had : Option Ty) (rest end : List ℕ) → SoFar names l text old None rest → Begins names.types rest old new had end → SoFar names l text new had end
  began old new None rest end g h = subst (λ s. SoFar names l text s None end) (sym h.0) (record {
    placed = g.placed ++ at l open_round ∷ [];
    come = left g.come;
    passed = one names (Below l) (wants_type l) text (λ i. state_of old None i.frames) (λ i. state_of (side.From ∷ old) None i.frames) rest end g.placed open_round l
        (λ i. level (within old i.frames)) g.passed h.1 room (λ i. refl) (levels old);
  })
  began old new (Some a) rest end g h = let b = h.1.1 in subst (λ s. SoFar names l text s (Some a) end) (sym h.0) (subst (λ t. SoFar names l text old (Some t) end) (sym h.1.2) (record {
    placed = g.placed ++ at l (Word b.name) ∷ [];
    come = record { before = g.placed; own = at l (Word b.name) ∷ []; split = refl; around = g.come; derived = base_of names l h.1.0 b.name b.number };
    passed = one names (Below l) (wants_type l) text (λ i. state_of old None i.frames) (λ i. state_of old (Some (types.Base h.1.0)) i.frames) rest end g.placed (Word b.name) l
        (λ i. level (within old i.frames)) g.passed b.tokens room (λ i. named (within old i.frames) h.1.0 b.name b.number) (levels old);
  }))

  refused : (k : List Frame) (ts : List Tok) → NoWord ts → IsNot open_round ts → Refuses names (WantType k) ts
  refused k [] w o = refl
  refused k (Word v ∷ ts) w o = absurd (w v ts refl)
  refused k (Mark OpenRound ∷ ts) w o = absurd (o ts refl)
  refused k (Mark _ ∷ ts) w o = refl

  pub began_not : (s : List Side) (rest : List ℕ) (e : PartFault) → SoFar names l text s None rest → FailsToBegin names.types rest e → FailsType names l text e
  began_not s rest (fault.Stops n) g h = subst (λ n. FailsType names l text (fault.Stops n)) (sym h.1.1)
      (stops names (BegunType names l) (Below l) (wants_type l) (λ i. state_of s None i.frames) text rest g.placed g.passed (begun g.come)
      (λ i. refused (within s i.frames) (cut rest) h.1.0 h.0))
  began_not s rest (fault.GoesBeyond n) g h = let u = h.1 in subst (λ n. FailsType names l text (fault.GoesBeyond n)) (sym u.count)
      (goes_beyond names (BegunType names l) (Below l) (wants_type l) (λ i. state_of s None i.frames) text rest g.placed g.passed (Word u.name) (most + 1) u.rest u.tokens
      (closes g.come (at (most + 1) (Word u.name) ∷ []) (types.Base 0) (base_unknown names l u.name u.unknown)) (omega arith))
  began_not s rest fault.NoMemory g h = tt

  -- ---- behind a type

  pub ended : (old : List Side) (a b : Ty) (rest : List ℕ) → SoFar names l text old (Some a) rest → old ≡ [] → b ≡ a → GotType names l text b rest
  ended old a b rest g none same =
      let o : Around names l [] g.come.before = subst (λ s. Around names l s g.come.before) none g.come.around in
      let whole : g.placed ≡ g.come.own = g.come.split ∙ ap (λ p. p ++ g.come.own) (nothing_around o) in
      record { placed = g.placed; derived = rw (whole, same) g.come.derived; within = g.passed.low; tokens = g.passed.tokens }

  turned_split : (p o q : List Placed) (x y : Placed) (own : List Placed) → p ≡ own ++ q → own ≡ o ++ x ∷ [] → p ++ y ∷ [] ≡ o ++ (x ∷ q ++ y ∷ [])
  turned_split p o q x y own e f = rw (e, f) (simp append_assoc refl)

  pub turned : (old new : List Side) (a : Ty) (rest end : List ℕ) → SoFar names l text old (Some a) rest → TurnsRight rest old new a end → SoFar names l text new None end
  turned old new a rest end g h =
      let s = h.0 in
      let g' : SoFar names l text (side.From ∷ s) (Some a) rest = subst (λ s. SoFar names l text s (Some a) rest) h.1 g in
      let o = left_of g'.come.around in
      subst (λ s. SoFar names l text s None end) (sym h.2) (record {
        placed = g'.placed ++ at l greater ∷ [];
        come = subst (λ p. Around names l (side.To a ∷ s) p) (sym (turned_split g'.placed o.outer g'.come.own (at l open_round) (at l greater) g'.come.before g'.come.split o.split))
            (right o.around g'.come.derived);
        passed = one names (Below l) (wants_type l) text (λ i. state_of (side.From ∷ s) (Some a) i.frames) (λ i. state_of (side.To a ∷ s) None i.frames) rest end g'.placed greater l
            (λ i. level (within s i.frames)) g'.passed h.3 room (λ i. refl) (levels s);
      })

  closed_split : (p o f q : List Placed) (x y z : Placed) (own : List Placed) → p ≡ own ++ q → own ≡ o ++ (x ∷ f ++ y ∷ []) → p ++ z ∷ [] ≡ o ++ (x ∷ f ++ y ∷ q ++ z ∷ [])
  closed_split p o f q x y z own e g = rw (e, g) (simp append_assoc refl)

  pub closed : (old new : List Side) (a b : Ty) (rest end : List ℕ) → SoFar names l text old (Some a) rest → Closes rest old new a b end → SoFar names l text new (Some b) end
  closed old new a b rest end g h =
      let f = h.0 in
      let g' : SoFar names l text (side.To f ∷ new) (Some a) rest = subst (λ s. SoFar names l text s (Some a) rest) h.1 g in
      let o = right_of g'.come.around in
      subst (λ t. SoFar names l text new (Some t) end) (sym h.2) (record {
        placed = g'.placed ++ at l close_round ∷ [];
        come = record {
          before = o.outer;
          own = at l open_round ∷ o.side ++ at l greater ∷ g'.come.own ++ at l close_round ∷ [];
          split = closed_split g'.placed o.outer o.side g'.come.own (at l open_round) (at l greater) (at l close_round) g'.come.before g'.come.split o.split;
          around = o.around;
          derived = arrow o.derived g'.come.derived;
        };
        passed = one names (Below l) (wants_type l) text (λ i. state_of (side.To f ∷ new) (Some a) i.frames) (λ i. state_of new (Some (types.Arrow f a)) i.frames) rest end g'.placed close_round l
            (λ i. level (within new i.frames)) g'.passed h.3 room (λ i. refl) (levels new);
      })

  no_turn : (a : Ty) (k : List Frame) (x : Tok) → (x ≡ greater → ⊥) → have_type a (From ∷ k) x ≡ None
  no_turn a k (Word w) n = refl
  no_turn a k (Mark Greater) n = absurd (n refl)
  no_turn a k (Mark _) n = refl

  no_end : (f a : Ty) (k : List Frame) (x : Tok) → (x ≡ close_round → ⊥) → have_type a (To f ∷ k) x ≡ None
  no_end f a k (Word w) n = refl
  no_end f a k (Mark CloseRound) n = absurd (n refl)
  no_end f a k (Mark _) n = refl

  pub gone_on_not : (s : List Side) (a : Ty) (rest : List ℕ) (e : PartFault) → SoFar names l text s (Some a) rest → FailsToGoOn rest s e → FailsType names l text e
  gone_on_not s a rest (fault.Stops n) g h = subst (λ n. FailsType names l text (fault.Stops n)) (sym h.0) (elim h.1 [
    | inl u ↦ (let g' : SoFar names l text (side.From ∷ u.0) (Some a) rest = subst (λ s. SoFar names l text s (Some a) rest) u.1 g in
        stops_but names (BegunType names l) (Below l) (wants_type l) (λ i. state_of (side.From ∷ u.0) (Some a) i.frames) text rest g'.placed g'.passed Greater (begun_part g'.come)
        (λ i. refl) (λ i. no_turn a (within u.0 i.frames)) u.2)
    | inr u ↦ (let g' : SoFar names l text (side.To u.0 ∷ u.1) (Some a) rest = subst (λ s. SoFar names l text s (Some a) rest) u.2 g in
        stops_but names (BegunType names l) (Below l) (wants_type l) (λ i. state_of (side.To u.0 ∷ u.1) (Some a) i.frames) text rest g'.placed g'.passed CloseRound (begun_part g'.come)
        (λ i. refl) (λ i. no_end u.0 a (within u.1 i.frames)) u.3)
  ])
  gone_on_not s a rest (fault.GoesBeyond n) g h = absurd h
  gone_on_not s a rest fault.NoMemory g h = tt

-- ---- less is left

abbrev pub wanted : Option Ty → ℕ
wanted None = 1
wanted (Some a) = 0

pub began_shorter : (names : List (List ℕ)) (old new : List Side) (had : Option Ty) (rest end : List ℕ) → Begins names rest old new had end →
    2 * length end + wanted had < 2 * length rest + 1
began_shorter names old new None rest end h = omega (arith, sign_shorter OpenRound rest end h.1)
began_shorter names old new (Some a) rest end h = omega (arith, word_shorter h.1.1.name rest end h.1.1.tokens)
