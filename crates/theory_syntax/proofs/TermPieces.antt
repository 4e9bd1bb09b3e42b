-- The ways out of the readers of formulas.
use Rattle.std.proofs.Common.{◌≡◌, ℕ, Bool, ◌+◌, ◌≤◌, ◌<◌, List, [], ◌∷◌, ◌++◌, length, refl, sym, ap, subst, append_assoc, append-nil, ◌∙◌, arith}
use Rattle.theory_syntax.specs.declared.tokens.Word.{Word}
use Rattle.theory_syntax.specs.declared.tokens.Quant.{Quant}
use Rattle.theory_syntax.specs.declared.tokens.Tok.{Tok}
use Rattle.theory_syntax.specs.declared.tokens.Tok.TheVariants as tok
use Rattle.theory_syntax.specs.declared.tree.Op.{Op}
use Rattle.theory_syntax.specs.declared.tree.Op.TheVariants as op
use Rattle.theory_syntax.specs.declared.tree.TyTree.{TyTree}
use Rattle.theory_syntax.specs.declared.tree.Tree.{Tree}
use Rattle.theory_syntax.specs.declared.tree.Tree.TheVariants as tree
use Rattle.first_fault.specs.declared.fault.Fault.{Fault}
use Rattle.first_fault.specs.declared.fault.Fault.TheVariants as fault
use Rattle.theory_syntax.specs.Grammar.{Placed, at, Formula, Chain, Neg, Eq, App, Args, Atom, sign, lower, right, extend, Whole, base, single, Derives, bind, plain, one, more as more_, not, same, side, sides, head, none, arg, name, truth as truth_, round}
use Rattle.theory_syntax.specs.Machine.{put, goes, run, Frame, Head, Left, Not, Join, Bind, Round, Typed, level, top_rank, op_rank, sort_rank, class, start, Want, Name, Colon, Have, WantTy, HaveTy, Goes, Ends, EndsTy, after, shifted}
use Rattle.theory_syntax.specs.Reading.{Within}
use Rattle.theory_syntax.specs.inner.Parts.{Got, Begun, Fault_of, GotTy, BegunTy, Fault_of_ty, Below, stance, stance_ty, IsNot, NoWord, NoAtom, StartsAtom, end_of}
use Rattle.theory_syntax.proofs.Complete.{complete, complete_ty, pops, always, arg_start, sign_step, sign_rank, lower_rank, right_rank, is_le, stays}
use Rattle.theory_syntax.proofs.Pieces.{put-append, goes-append, inside, here, within-append, regroup}

-- ---- atoms as other parts

pub as_app : {l : ℕ} {p : List Placed} {t : Tree} → Derives l Atom p t → Derives l App p t
as_app {l = l} {p = p} {t = t} d = subst (λ q. Derives l App q t) (append-nil p) (head d none)

pub as_neg : {l : ℕ} {p : List Placed} {t : Tree} → Derives l Atom p t → Derives l Neg p t
as_neg d = same (side (as_app d))

pub as_chain : {l : ℕ} {p : List Placed} {t : Tree} → (o : Op) → Derives l Neg p t → Derives l (Chain o) p t
as_chain op.And d = one d
as_chain op.Or d = one (one d)
as_chain op.Imp d = one (one (one d))

pub as_formula : {l : ℕ} {p : List Placed} {t : Tree} → Derives l Neg p t → Derives l Formula p t
as_formula d = plain (as_chain op.Imp d)

-- a word to go on with where any would do
pub anon : Word
anon = record { start = 0; len = 0 }

-- ---- an atom

module _ (m l : ℕ) (ts : List Tok) where
  pub a_name : (x : Word) (rest : List Tok) → l ≤ m → ts ≡ tok.Word x ∷ rest → Got m l Atom ts (tree.Name x) rest
  a_name x rest room eq = record { room = room; placed = at l (tok.Word x) ∷ []; derived = name; within = (room, tt); tokens = eq; ends = always rest }

  pub a_truth : (b : Bool) (n : ℕ) (rest : List Tok) → l ≤ m → ts ≡ tok.Truth b n ∷ rest → Got m l Atom ts (tree.Truth b n) rest
  a_truth b n rest room eq = record { room = room; placed = at l (tok.Truth b n) ∷ []; derived = truth_; within = (room, tt); tokens = eq; ends = always rest }

  pub no_atom : NoAtom ts → Fault_of m l Atom ts (fault.Syntax (length ts))
  no_atom bad = here m (Begun l Atom) (Below l 0) (stance l Atom) [] ts ts refl tt (at l (tok.Word anon) ∷ [], _, name) (λ i. stuck ts bad i.frames)
    where
      stuck : (us : List Tok) → NoAtom us → (k : List Frame) → run (Want 0 k) us ≡ end_of us
      stuck [] bad k = refl
      stuck (tok.Word x ∷ us) bad k = absurd bad
      stuck (tok.Truth b n ∷ us) bad k = absurd bad
      stuck (tok.Open n ∷ us) bad k = absurd bad
      stuck (_ ∷ us) bad k = refl

  opened : (n : ℕ) (mid : List Tok) → ts ≡ tok.Open n ∷ mid → (i : Below l 0) → run (Want 0 i.frames) ts ≡ Goes l (run (Want 2 (Round n ∷ i.frames)) mid)
  opened n mid eq i = ap (λ xs. run (Want 0 i.frames) xs) eq ∙ ap (λ j. Goes j (run (Want 2 (Round n ∷ i.frames)) mid)) i.is_level

  pub open_fails : (n : ℕ) (mid : List Tok) (e : Fault) → l ≤ m → ts ≡ tok.Open n ∷ mid → Fault_of m (l + 1) Formula mid e → Fault_of m l Atom ts e
  open_fails n mid e room eq h = inside m (Begun l Atom) (Begun (l + 1) Formula) (Below l 0) (Below (l + 1) 6) (stance l Atom) (stance (l + 1) Formula)
      (at l (tok.Open n) ∷ []) ts mid eq (room, tt)
      (λ q b. (b.0 ++ at (l + 1) tok.Close ∷ [], _, subst (λ p. Derives l Atom p (tree.Round n b.1)) (append_assoc (at l (tok.Open n) ∷ q) b.0 (at (l + 1) tok.Close ∷ [])) (round b.2)))
      (λ i. (record { frames = Round n ∷ i.frames; is_level = ap (λ n. n + 1) i.is_level; is_rank = omega arith }, opened n mid eq i))
      e h

  pub unclosed : (n : ℕ) (mid : List Tok) (t : Tree) (rest : List Tok) → l ≤ m → ts ≡ tok.Open n ∷ mid → Got m (l + 1) Formula mid t rest → IsNot tok.Close rest → Fault_of m l Atom ts (fault.Syntax (length rest))
  unclosed n mid t rest room eq g bad = here m (Begun l Atom) (Below l 0) (stance l Atom) (at l (tok.Open n) ∷ g.placed) ts rest
      (eq ∙ ap (λ xs. tok.Open n ∷ xs) g.tokens) (room, g.within) (at (l + 1) tok.Close ∷ [], _, round g.derived)
      (λ i. opened n mid eq i ∙ ap (λ r. Goes l r) (ap (λ xs. run (Want 2 (Round n ∷ i.frames)) xs) g.tokens ∙
      complete g.derived 2 (Round n ∷ i.frames) rest (omega arith) (ap (λ n. n + 1) i.is_level) (omega arith) g.ends ∙ ap (λ r. goes g.placed r) (stuck rest g.ends bad i.frames)))
    where
      stuck : (us : List Tok) → Ends 6 us → IsNot tok.Close us → (k : List Frame) → run (Have t (Round n ∷ k)) us ≡ end_of us
      stuck [] e bad k = refl
      stuck (tok.Word x ∷ us) e bad k = absurd (omega arith)
      stuck (tok.Truth b j ∷ us) e bad k = absurd (omega arith)
      stuck (tok.Open j ∷ us) e bad k = absurd (omega arith)
      stuck (tok.Equal ∷ us) e bad k = absurd (omega arith)
      stuck (tok.Amp ∷ us) e bad k = absurd (omega arith)
      stuck (tok.Bar ∷ us) e bad k = absurd (omega arith)
      stuck (tok.Imp ∷ us) e bad k = absurd (omega arith)
      stuck (tok.Close ∷ us) e bad k = absurd (bad us refl)
      stuck (_ ∷ us) e bad k = refl

  pub closed : (n : ℕ) (mid : List Tok) (t : Tree) (end rest : List Tok) → l ≤ m → ts ≡ tok.Open n ∷ mid → Got m (l + 1) Formula mid t end → end ≡ tok.Close ∷ rest → Got m l Atom ts (tree.Round n t) rest
  closed n mid t end rest room eq g shut = record {
    room = room;
    placed = at l (tok.Open n) ∷ g.placed ++ at (l + 1) tok.Close ∷ [];
    derived = round g.derived;
    within = (room, within-append m g.placed (at (l + 1) tok.Close ∷ []) g.within (g.room, tt));
    tokens = eq ∙ ap (λ xs. tok.Open n ∷ xs) (g.tokens ∙ ap (λ xs. put g.placed xs) shut ∙ sym (put-append g.placed (at (l + 1) tok.Close ∷ []) rest));
    ends = always rest;
  }

  -- ---- an application

  pub app_fails : (e : Fault) → Fault_of m l Atom ts e → Fault_of m l App ts e
  app_fails e h = inside m (Begun l App) (Begun l Atom) (Below l 1) (Below l 0) (stance l App) (stance l Atom) [] ts ts refl tt
      (λ q b. (b.0, b.1, as_app b.2)) (λ i. (record { frames = i.frames; is_level = i.is_level; is_rank = omega arith }, refl)) e h

  pub args_fail : (f : Tree) (end : List Tok) (e : Fault) → Got m l Atom ts f end → Fault_of m l (Args f) end e → Fault_of m l App ts e
  args_fail f end e g h = inside m (Begun l App) (Begun l (Args f)) (Below l 1) (Below l 1) (stance l App) (stance l (Args f)) g.placed ts end g.tokens g.within
      (λ q b. (b.0, b.1, subst (λ p. Derives l App p b.1) (sym (append_assoc g.placed q b.0)) (head g.derived b.2)))
      (λ i. (i, ap (λ xs. run (Want 0 i.frames) xs) g.tokens ∙ complete g.derived 0 i.frames end (omega arith) i.is_level (omega arith) (always end)))
      e h

  pub applied : (f t : Tree) (end rest : List Tok) → Got m l Atom ts f end → Got m l (Args f) end t rest → Got m l App ts t rest
  applied f t end rest g h = record {
    room = g.room;
    placed = g.placed ++ h.placed;
    derived = head g.derived h.derived;
    within = within-append m g.placed h.placed g.within h.within;
    tokens = g.tokens ∙ ap (λ xs. put g.placed xs) h.tokens ∙ sym (put-append g.placed h.placed rest);
    ends = h.ends;
  }

-- what the loop has read behind a head
pub record SoFar (m l : ℕ) (f : Tree) (ts : List Tok) (t : Tree) (rest : List Tok) : Type 0 where
  pub room : l ≤ m
  pub placed : List Placed
  pub within : Within m placed
  pub tokens : ts ≡ put placed rest
  pub joins : (q : List Placed) (u : Tree) → Derives l (Args t) q u → Derives l (Args f) (placed ++ q) u
  pub walks : (i : Below l 1) → run (Have f i.frames) ts ≡ goes placed (run (Have t i.frames) rest)

module _ (m l : ℕ) (f : Tree) (ts : List Tok) where
  pub begins : l ≤ m → SoFar m l f ts f ts
  begins room = record { room = room; placed = []; within = tt; tokens = refl; joins = λ q u d. d; walks = λ i. refl }

  pub goes_on : (t x : Tree) (rest end : List Tok) → SoFar m l f ts t rest → Got m l Atom rest x end → SoFar m l f ts (extend t x) end
  goes_on t x rest end s g = record {
    room = s.room;
    placed = s.placed ++ g.placed;
    within = within-append m s.placed g.placed s.within g.within;
    tokens = s.tokens ∙ ap (λ xs. put s.placed xs) g.tokens ∙ sym (put-append s.placed g.placed end);
    joins = λ q u d. subst (λ p. Derives l (Args f) p u) (sym (append_assoc s.placed g.placed q)) (s.joins (g.placed ++ q) u (arg g.derived d));
    walks = λ i.
        let lev : level (Head t ∷ i.frames) ≡ l = let h = i.is_level in omega arith in
        s.walks i ∙ ap (λ r. goes s.placed r) (ap (λ xs. run (Have t i.frames) xs) g.tokens ∙ arg_start g.derived t i.frames end i.is_rank ∙
        complete g.derived 0 (Head t ∷ i.frames) end (omega arith) lev (omega arith) (always end) ∙
        ap (λ r. goes g.placed r) (pops (Head t) i.frames x end (omega arith) (always end)))
        ∙ sym (goes-append s.placed g.placed (run (Have (extend t x) i.frames) end));
  }

  pub arg_fails : (t : Tree) (rest : List Tok) (e : Fault) → SoFar m l f ts t rest → StartsAtom rest → Fault_of m l Atom rest e → Fault_of m l (Args f) ts e
  arg_fails t rest e s starts h = inside m (Begun l (Args f)) (Begun l Atom) (Below l 1) (Below l 0) (stance l (Args f)) (stance l Atom) s.placed ts rest s.tokens s.within
      (λ q b. (b.0, extend t b.1, subst (λ p. Derives l (Args f) p (extend t b.1)) (sym (append_assoc s.placed q b.0)) (s.joins (q ++ b.0) (extend t b.1) (subst (λ p. Derives l (Args t) p (extend t b.1)) (append-nil (q ++ b.0)) (arg b.2 none)))))
      (λ i. let lev : level (Head t ∷ i.frames) ≡ l = let h = i.is_level in omega arith in
      (record { frames = Head t ∷ i.frames; is_level = lev; is_rank = omega arith }, s.walks i ∙ ap (λ r. goes s.placed r) (enters rest starts i.frames i.is_rank)))
      e h
    where
      enters : (us : List Tok) → StartsAtom us → (k : List Frame) → 1 ≤ top_rank k → run (Have t k) us ≡ run (Want 0 (Head t ∷ k)) us
      enters [] bad k h = absurd bad
      enters (tok.Word x ∷ us) fine k h = arg_start {l = 0} name t k us h
      enters (tok.Truth b n ∷ us) fine k h = arg_start {l = 0} truth_ t k us h
      enters (tok.Open n ∷ us) fine k h =
          let lev : level k ≡ level (Head t ∷ k) = omega arith in
          ap (λ c. after (shifted (tok.Open n) c) (λ s. run s us)) (stays 1 t k h) ∙ ap (λ j. Goes j (run (Want 2 (Round n ∷ Head t ∷ k)) us)) lev
      enters (_ ∷ us) bad k h = absurd bad

  pub args_end : (t : Tree) (rest : List Tok) → SoFar m l f ts t rest → NoAtom rest → Got m l (Args f) ts t rest
  args_end t rest s bad = record {
    room = s.room;
    placed = s.placed;
    derived = subst (λ p. Derives l (Args f) p t) (append-nil s.placed) (s.joins [] t none);
    within = s.within;
    tokens = s.tokens;
    ends = ends rest bad;
  }
    where
      ends : (us : List Tok) → NoAtom us → Ends 1 us
      ends [] bad = tt
      ends (tok.Word x ∷ us) bad = absurd bad
      ends (tok.Truth b n ∷ us) bad = absurd bad
      ends (tok.Open n ∷ us) bad = absurd bad
      ends (tok.Equal ∷ us) bad = omega arith
      ends (tok.Amp ∷ us) bad = omega arith
      ends (tok.Bar ∷ us) bad = omega arith
      ends (tok.Imp ∷ us) bad = omega arith
      ends (_ ∷ us) bad = omega arith

-- an atom takes a token
no_longer : (p : List Placed) (end : List Tok) → length end ≤ length (put p end)
no_longer [] end = omega arith
no_longer (x ∷ p) end = let h = no_longer p end in omega arith

behind_atom : {l : ℕ} {p : List Placed} {x : Tree} → Derives l Atom p x → (end : List Tok) → length end < length (put p end)
behind_atom name end = omega arith
behind_atom truth_ end = omega arith
behind_atom (round {l = l} {p = p} d) end = let h = no_longer (p ++ at (l + 1) tok.Close ∷ []) end in omega arith

pub shorter : (m l : ℕ) (ts : List Tok) (x : Tree) (end : List Tok) → Got m l Atom ts x end → length end < length ts
shorter m l ts x end g = subst (λ us. length end < length us) (sym g.tokens) (behind_atom g.derived end)

-- ---- an equation

module _ (m l : ℕ) (ts : List Tok) where
  pub eq_fails : (e : Fault) → Fault_of m l App ts e → Fault_of m l Eq ts e
  eq_fails e h = inside m (Begun l Eq) (Begun l App) (Below l 3) (Below l 1) (stance l Eq) (stance l App) [] ts ts refl tt
      (λ q b. (b.0, b.1, side b.2)) (λ i. (record { frames = i.frames; is_level = i.is_level; is_rank = let h = i.is_rank in omega arith }, refl)) e h

  pub eq_alone : (a : Tree) (rest : List Tok) → Got m l App ts a rest → IsNot tok.Equal rest → Got m l Eq ts a rest
  eq_alone a rest g bad = record { room = g.room; placed = g.placed; derived = side g.derived; within = g.within; tokens = g.tokens; ends = ends rest g.ends bad }
    where
      ends : (us : List Tok) → Ends 1 us → IsNot tok.Equal us → Ends 3 us
      ends [] e bad = tt
      ends (tok.Word x ∷ us) e bad = omega arith
      ends (tok.Truth b n ∷ us) e bad = omega arith
      ends (tok.Open n ∷ us) e bad = omega arith
      ends (tok.Equal ∷ us) e bad = absurd (bad us refl)
      ends (tok.Amp ∷ us) e bad = omega arith
      ends (tok.Bar ∷ us) e bad = omega arith
      ends (tok.Imp ∷ us) e bad = omega arith
      ends (_ ∷ us) e bad = omega arith

  -- behind the left side and its sign
  eq_walk : (a : Tree) (end more : List Tok) → (g : Got m l App ts a end) → end ≡ tok.Equal ∷ more → (i : Below l 3) →
      run (Want 0 i.frames) ts ≡ goes (g.placed ++ at l tok.Equal ∷ []) (run (Want 0 (Left a ∷ i.frames)) more)
  eq_walk a end more g sign i =
      let k = i.frames in
      let high : 1 ≤ top_rank k = let h = i.is_rank in omega arith in
      let two : 2 ≤ top_rank k = let h = i.is_rank in omega arith in
      let test = is_le 3 (top_rank k) i.is_rank in
      let step : run (Have a k) (tok.Equal ∷ more) ≡ Goes (level k) (run (Want 0 (Left a ∷ k)) more) =
      ap (λ c. after (shifted tok.Equal c) (λ s. run s more)) (stays 2 a k two) ∙ rw test refl in
      ap (λ xs. run (Want 0 k) xs) (g.tokens ∙ ap (λ xs. put g.placed xs) sign) ∙ complete g.derived 0 k (tok.Equal ∷ more) (omega arith) i.is_level high (omega arith) ∙
      ap (λ r. goes g.placed r) (step ∙ ap (λ n. Goes n (run (Want 0 (Left a ∷ k)) more)) i.is_level) ∙
      sym (goes-append g.placed (at l tok.Equal ∷ []) (run (Want 0 (Left a ∷ k)) more))

  eq_front : (a : Tree) (end more : List Tok) → (g : Got m l App ts a end) → end ≡ tok.Equal ∷ more → ts ≡ put (g.placed ++ at l tok.Equal ∷ []) more
  eq_front a end more g sign = g.tokens ∙ ap (λ xs. put g.placed xs) sign ∙ sym (put-append g.placed (at l tok.Equal ∷ []) more)

  pub eq_right_fails : (a : Tree) (end more : List Tok) (e : Fault) → Got m l App ts a end → end ≡ tok.Equal ∷ more → Fault_of m l App more e → Fault_of m l Eq ts e
  eq_right_fails a end more e g sign h = inside m (Begun l Eq) (Begun l App) (Below l 3) (Below l 1) (stance l Eq) (stance l App)
      (g.placed ++ at l tok.Equal ∷ []) ts more (eq_front a end more g sign) (within-append m g.placed (at l tok.Equal ∷ []) g.within (g.room, tt))
      (λ q b. (b.0, _, subst (λ p. Derives l Eq p (tree.Equals a b.1)) (sym (regroup g.placed q b.0 (at l tok.Equal))) (sides g.derived b.2)))
      (λ i. let lev : level (Left a ∷ i.frames) ≡ l = let h = i.is_level in omega arith in
      (record { frames = Left a ∷ i.frames; is_level = lev; is_rank = omega arith }, eq_walk a end more g sign i))
      e h

  pub eq_both : (a b : Tree) (end more rest : List Tok) → Got m l App ts a end → end ≡ tok.Equal ∷ more → Got m l App more b rest → IsNot tok.Equal rest → Got m l Eq ts (tree.Equals a b) rest
  eq_both a b end more rest g sign h bad = record {
    room = g.room;
    placed = g.placed ++ at l tok.Equal ∷ h.placed;
    derived = sides g.derived h.derived;
    within = within-append m g.placed (at l tok.Equal ∷ h.placed) g.within (g.room, h.within);
    tokens = g.tokens ∙ ap (λ xs. put g.placed xs) (sign ∙ ap (λ xs. tok.Equal ∷ xs) h.tokens) ∙ sym (put-append g.placed (at l tok.Equal ∷ h.placed) rest);
    ends = ends rest h.ends bad;
  }
    where
      ends : (us : List Tok) → Ends 1 us → IsNot tok.Equal us → Ends 3 us
      ends [] e bad = tt
      ends (tok.Word x ∷ us) e bad = omega arith
      ends (tok.Truth b n ∷ us) e bad = omega arith
      ends (tok.Open n ∷ us) e bad = omega arith
      ends (tok.Equal ∷ us) e bad = absurd (bad us refl)
      ends (tok.Amp ∷ us) e bad = omega arith
      ends (tok.Bar ∷ us) e bad = omega arith
      ends (tok.Imp ∷ us) e bad = omega arith
      ends (_ ∷ us) e bad = omega arith

  -- a second `=`
  pub eq_again : (a b : Tree) (end more rest behind : List Tok) → Got m l App ts a end → end ≡ tok.Equal ∷ more → Got m l App more b rest → rest ≡ tok.Equal ∷ behind → Fault_of m l Eq ts (fault.Syntax (length rest))
  eq_again a b end more rest behind g sign h again =
      let all = eq_both_tokens a b end more rest g sign h in
      here m (Begun l Eq) (Below l 3) (stance l Eq) (g.placed ++ at l tok.Equal ∷ h.placed) ts rest all
      (within-append m g.placed (at l tok.Equal ∷ h.placed) g.within (g.room, h.within))
      ([], _, subst (λ p. Derives l Eq p (tree.Equals a b)) (sym (append-nil (g.placed ++ at l tok.Equal ∷ h.placed))) (sides g.derived h.derived))
      (λ i. let lev : level (Left a ∷ i.frames) ≡ l = let h = i.is_level in omega arith in
      eq_walk a end more g sign i ∙ goes-append g.placed (at l tok.Equal ∷ []) (run (Want 0 (Left a ∷ i.frames)) more) ∙
      ap (λ r. goes g.placed (Goes l r)) (ap (λ xs. run (Want 0 (Left a ∷ i.frames)) xs) h.tokens ∙ complete h.derived 0 (Left a ∷ i.frames) rest (omega arith) lev (omega arith) h.ends ∙
      ap (λ r. goes h.placed r) (ap (λ xs. run (Have b (Left a ∷ i.frames)) xs) again ∙ sym (ap (λ xs. end_of xs) again)))
      ∙ sym (goes-append g.placed (at l tok.Equal ∷ h.placed) (end_of rest)))
    where
      eq_both_tokens : (a b : Tree) (end more rest : List Tok) → (g : Got m l App ts a end) → end ≡ tok.Equal ∷ more → (h : Got m l App more b rest) → ts ≡ put (g.placed ++ at l tok.Equal ∷ h.placed) rest
      eq_both_tokens a b end more rest g sign h = g.tokens ∙ ap (λ xs. put g.placed xs) (sign ∙ ap (λ xs. tok.Equal ∷ xs) h.tokens) ∙ sym (put-append g.placed (at l tok.Equal ∷ h.placed) rest)

  -- ---- a negation

  pub not_fails : (n : ℕ) (rest : List Tok) (e : Fault) → l ≤ m → ts ≡ tok.Tilde n ∷ rest → Fault_of m (l + 1) Neg rest e → Fault_of m l Neg ts e
  not_fails n rest e room eq h = inside m (Begun l Neg) (Begun (l + 1) Neg) (Below l 3) (Below (l + 1) 3) (stance l Neg) (stance (l + 1) Neg)
      (at l (tok.Tilde n) ∷ []) ts rest eq (room, tt) (λ q b. (b.0, _, not b.2))
      (λ i. (
        record { frames = Not n ∷ i.frames; is_level = ap (λ n. n + 1) i.is_level; is_rank = omega arith },
        ap (λ xs. run (Want 1 i.frames) xs) eq ∙ ap (λ j. Goes j (run (Want 1 (Not n ∷ i.frames)) rest)) i.is_level,
      ))
      e h

  pub not_ok : (n : ℕ) (t : Tree) (more rest : List Tok) → l ≤ m → ts ≡ tok.Tilde n ∷ more → Got m (l + 1) Neg more t rest → Got m l Neg ts (tree.Not n t) rest
  not_ok n t more rest room eq g = record {
    room = room;
    placed = at l (tok.Tilde n) ∷ g.placed;
    derived = not g.derived;
    within = (room, g.within);
    tokens = eq ∙ ap (λ xs. tok.Tilde n ∷ xs) g.tokens;
    ends = g.ends;
  }

  pub same_ok : (t : Tree) (rest : List Tok) → Got m l Eq ts t rest → Got m l Neg ts t rest
  same_ok t rest g = record { room = g.room; placed = g.placed; derived = same g.derived; within = g.within; tokens = g.tokens; ends = g.ends }

  pub same_fails : (e : Fault) → ((n : ℕ) → IsNot (tok.Tilde n) ts) → Fault_of m l Eq ts e → Fault_of m l Neg ts e
  same_fails e bad h = inside m (Begun l Neg) (Begun l Eq) (Below l 3) (Below l 3) (stance l Neg) (stance l Eq) [] ts ts refl tt
      (λ q b. (b.0, b.1, same b.2)) (λ i. (i, alike ts bad i.frames)) e h
    where
      alike : (us : List Tok) → ((n : ℕ) → IsNot (tok.Tilde n) us) → (k : List Frame) → run (Want 1 k) us ≡ run (Want 0 k) us
      alike [] bad k = refl
      alike (tok.Tilde n ∷ us) bad k = absurd (bad n us refl)
      alike (_ ∷ us) bad k = refl

  -- ---- a chain

  lower_class_is : (o : Op) (k : List Frame) → start (Chain o) 1 k ≡ start (lower o) (class (lower o)) k
  lower_class_is op.And k = refl
  lower_class_is op.Or k = refl
  lower_class_is op.Imp k = refl

  pub chain_fails : (o : Op) (e : Fault) → Fault_of m l (lower o) ts e → Fault_of m l (Chain o) ts e
  chain_fails o e h = inside m (Begun l (Chain o)) (Begun l (lower o)) (Below l (op_rank o)) (Below l (sort_rank (lower o))) (stance l (Chain o)) (stance l (lower o)) [] ts ts refl tt
      (λ q b. (b.0, b.1, one b.2))
      (λ i. let low = lower_rank o in (record { frames = i.frames; is_level = i.is_level; is_rank = let h = i.is_rank in omega arith }, ap (λ s. run s ts) (lower_class_is o i.frames))) e h

  pub chain_alone : (o : Op) (a : Tree) (rest : List Tok) → Got m l (lower o) ts a rest → IsNot (sign o) rest → Got m l (Chain o) ts a rest
  chain_alone o a rest g bad = record { room = g.room; placed = g.placed; derived = one g.derived; within = g.within; tokens = g.tokens; ends = ends o rest g.ends bad }
    where
      ends : (o : Op) (us : List Tok) → Ends (sort_rank (lower o)) us → IsNot (sign o) us → Ends (op_rank o) us
      ends o [] e bad = tt
      ends op.And (tok.Amp ∷ us) e bad = absurd (bad us refl)
      ends op.Or (tok.Bar ∷ us) e bad = absurd (bad us refl)
      ends op.Imp (tok.Imp ∷ us) e bad = absurd (bad us refl)
      ends op.And (_ ∷ us) e bad = omega arith
      ends op.Or (_ ∷ us) e bad = omega arith
      ends op.Imp (_ ∷ us) e bad = omega arith

  chain_walk : (o : Op) (a : Tree) (end more : List Tok) → (g : Got m l (lower o) ts a end) → end ≡ sign o ∷ more → (i : Below l (op_rank o)) →
      run (Want 1 i.frames) ts ≡ goes (g.placed ++ at l (sign o) ∷ []) (run (start (right o) (class (right o)) (Join o a ∷ i.frames)) more)
  chain_walk o a end more g sgn i =
      let k = i.frames in
      let low = lower_rank o in
      let sign_is = sign_rank o in
      let high : sort_rank (lower o) ≤ top_rank k = let h = i.is_rank in omega arith in
      let inner = run (start (right o) (class (right o)) (Join o a ∷ k)) more in
      ap (λ s. run s ts) (lower_class_is o k) ∙ ap (λ xs. run (start (lower o) (class (lower o)) k) xs) (g.tokens ∙ ap (λ xs. put g.placed xs) sgn) ∙
      complete g.derived (class (lower o)) k (sign o ∷ more) (omega arith) i.is_level high (omega arith) ∙
      ap (λ r. goes g.placed r) (sign_step o a k more i.is_rank ∙ ap (λ n. Goes n inner) i.is_level) ∙ sym (goes-append g.placed (at l (sign o) ∷ []) inner)

  pub chain_right_fails : (o : Op) (a : Tree) (end more : List Tok) (e : Fault) → Got m l (lower o) ts a end → end ≡ sign o ∷ more → Fault_of m (l + 1) (right o) more e → Fault_of m l (Chain o) ts e
  chain_right_fails o a end more e g sgn h = inside m (Begun l (Chain o)) (Begun (l + 1) (right o)) (Below l (op_rank o)) (Below (l + 1) (sort_rank (right o))) (stance l (Chain o)) (stance (l + 1) (right o))
      (g.placed ++ at l (sign o) ∷ []) ts more
      (g.tokens ∙ ap (λ xs. put g.placed xs) sgn ∙ sym (put-append g.placed (at l (sign o) ∷ []) more))
      (within-append m g.placed (at l (sign o) ∷ []) g.within (g.room, tt))
      (λ q b. (b.0, _, subst (λ p. Derives l (Chain o) p (tree.Join o a b.1)) (sym (regroup g.placed q b.0 (at l (sign o)))) (more_ g.derived b.2)))
      (λ i. let same_rank = right_rank o in
      (record { frames = Join o a ∷ i.frames; is_level = ap (λ n. n + 1) i.is_level; is_rank = omega arith }, chain_walk o a end more g sgn i))
      e h

  pub chain_both : (o : Op) (a b : Tree) (end more rest : List Tok) → Got m l (lower o) ts a end → end ≡ sign o ∷ more → Got m (l + 1) (right o) more b rest → Got m l (Chain o) ts (tree.Join o a b) rest
  chain_both o a b end more rest g sgn h = record {
    room = g.room;
    placed = g.placed ++ at l (sign o) ∷ h.placed;
    derived = more_ g.derived h.derived;
    within = within-append m g.placed (at l (sign o) ∷ h.placed) g.within (g.room, h.within);
    tokens = g.tokens ∙ ap (λ xs. put g.placed xs) (sgn ∙ ap (λ xs. sign o ∷ xs) h.tokens) ∙ sym (put-append g.placed (at l (sign o) ∷ h.placed) rest);
    ends = subst (λ r. Ends r rest) (right_rank o) h.ends;
  }

  -- ---- a formula

  pub plain_ok : (t : Tree) (rest : List Tok) → Got m l (Chain op.Imp) ts t rest → Got m l Formula ts t rest
  plain_ok t rest g = record { room = g.room; placed = g.placed; derived = plain g.derived; within = g.within; tokens = g.tokens; ends = g.ends }

  pub plain_fails : (e : Fault) → ((q : Quant) (n : ℕ) → IsNot (tok.Quant q n) ts) → Fault_of m l (Chain op.Imp) ts e → Fault_of m l Formula ts e
  plain_fails e bad h = inside m (Begun l Formula) (Begun l (Chain op.Imp)) (Below l 6) (Below l 6) (stance l Formula) (stance l (Chain op.Imp)) [] ts ts refl tt
      (λ q b. (b.0, b.1, plain b.2)) (λ i. (i, alike ts bad i.frames)) e h
    where
      alike : (us : List Tok) → ((q : Quant) (n : ℕ) → IsNot (tok.Quant q n) us) → (k : List Frame) → run (Want 2 k) us ≡ run (Want 1 k) us
      alike [] bad k = refl
      alike (tok.Quant q n ∷ us) bad k = absurd (bad q n us refl)
      alike (_ ∷ us) bad k = refl

-- ---- a binder: `ts` begins with a quantifier, `bound` is behind it

module _ (m l : ℕ) (ts : List Tok) (j : Quant) (n : ℕ) (bound : List Tok) (room : l ≤ m) (quant : ts ≡ tok.Quant j n ∷ bound) where
  quant_walk : (i : Below l 6) → run (Want 2 i.frames) ts ≡ Goes l (run (Name j n i.frames) bound)
  quant_walk i = ap (λ xs. run (Want 2 i.frames) xs) quant ∙ ap (λ v. Goes v (run (Name j n i.frames) bound)) i.is_level

  pub no_name : NoWord bound → Fault_of m l Formula ts (fault.Syntax (length bound))
  no_name bad = here m (Begun l Formula) (Below l 6) (stance l Formula) (at l (tok.Quant j n) ∷ []) ts bound quant (room, tt)
      (at l (tok.Word anon) ∷ at l tok.Colon ∷ at l (tok.Word anon) ∷ at l tok.Dot ∷ at (l + 1) (tok.Word anon) ∷ [], _, bind (single base) (as_formula (as_neg name)))
      (λ i. quant_walk i ∙ ap (λ r. Goes l r) (stuck bound bad i.frames))
    where
      stuck : (us : List Tok) → NoWord us → (k : List Frame) → run (Name j n k) us ≡ end_of us
      stuck [] bad k = refl
      stuck (tok.Word x ∷ us) bad k = absurd (bad x us refl)
      stuck (_ ∷ us) bad k = refl

  module _ (x : Word) (named : List Tok) (word_is : bound ≡ tok.Word x ∷ named) where
    name_front : ts ≡ tok.Quant j n ∷ tok.Word x ∷ named
    name_front = quant ∙ ap (λ xs. tok.Quant j n ∷ xs) word_is

    name_walk : (i : Below l 6) → run (Want 2 i.frames) ts ≡ Goes l (Goes l (run (Colon j n x i.frames) named))
    name_walk i = quant_walk i ∙ ap (λ r. Goes l r) (ap (λ xs. run (Name j n i.frames) xs) word_is ∙ ap (λ v. Goes v (run (Colon j n x i.frames) named)) i.is_level)

    pub no_colon : IsNot tok.Colon named → Fault_of m l Formula ts (fault.Syntax (length named))
    no_colon bad = here m (Begun l Formula) (Below l 6) (stance l Formula) (at l (tok.Quant j n) ∷ at l (tok.Word x) ∷ []) ts named name_front (room, (room, tt))
        (at l tok.Colon ∷ at l (tok.Word anon) ∷ at l tok.Dot ∷ at (l + 1) (tok.Word anon) ∷ [], _, bind (single base) (as_formula (as_neg name)))
        (λ i. name_walk i ∙ ap (λ r. Goes l (Goes l r)) (stuck named bad i.frames))
      where
        stuck : (us : List Tok) → IsNot tok.Colon us → (k : List Frame) → run (Colon j n x k) us ≡ end_of us
        stuck [] bad k = refl
        stuck (tok.Colon ∷ us) bad k = absurd (bad us refl)
        stuck (_ ∷ us) bad k = refl

    module _ (typed : List Tok) (colon_is : named ≡ tok.Colon ∷ typed) where
      colon_front : ts ≡ tok.Quant j n ∷ tok.Word x ∷ tok.Colon ∷ typed
      colon_front = name_front ∙ ap (λ xs. tok.Quant j n ∷ tok.Word x ∷ xs) colon_is

      colon_walk : (i : Below l 6) → run (Want 2 i.frames) ts ≡ Goes l (Goes l (Goes l (run (WantTy (Typed j n x ∷ i.frames)) typed)))
      colon_walk i = name_walk i ∙ ap (λ r. Goes l (Goes l r)) (ap (λ xs. run (Colon j n x i.frames) xs) colon_is ∙ ap (λ v. Goes v (run (WantTy (Typed j n x ∷ i.frames)) typed)) i.is_level)

      pub type_fails : (e : Fault) → Fault_of_ty m l Whole typed e → Fault_of m l Formula ts e
      type_fails e h = inside m (Begun l Formula) (BegunTy l Whole) (Below l 6) (Below l 0) (stance l Formula) (stance_ty l)
          (at l (tok.Quant j n) ∷ at l (tok.Word x) ∷ at l tok.Colon ∷ []) ts typed colon_front (room, (room, (room, tt)))
          (λ q b. (
            b.0 ++ at l tok.Dot ∷ at (l + 1) (tok.Word anon) ∷ [],
            _,
            subst (λ p. Derives l Formula (at l (tok.Quant j n) ∷ at l (tok.Word x) ∷ at l tok.Colon ∷ p) (tree.Bind j n x b.1 (tree.Name anon))) (append_assoc q b.0 (at l tok.Dot ∷ at (l + 1) (tok.Word anon) ∷ []))
                (bind b.2 (as_formula (as_neg name))),
          ))
          (λ i. let lev : level (Typed j n x ∷ i.frames) ≡ l = let h = i.is_level in omega arith in
          (record { frames = Typed j n x ∷ i.frames; is_level = lev; is_rank = omega arith }, colon_walk i))
          e h

      module _ (a : TyTree) (end : List Tok) (g : GotTy m l Whole typed a end) where
        type_front : ts ≡ put (at l (tok.Quant j n) ∷ at l (tok.Word x) ∷ at l tok.Colon ∷ g.placed) end
        type_front = colon_front ∙ ap (λ xs. tok.Quant j n ∷ tok.Word x ∷ tok.Colon ∷ xs) g.tokens

        type_walk : (i : Below l 6) → run (Want 2 i.frames) ts ≡ goes (at l (tok.Quant j n) ∷ at l (tok.Word x) ∷ at l tok.Colon ∷ g.placed) (run (HaveTy a (Typed j n x ∷ i.frames)) end)
        type_walk i =
            let lev : level (Typed j n x ∷ i.frames) ≡ l = let h = i.is_level in omega arith in
            colon_walk i ∙ ap (λ r. Goes l (Goes l (Goes l r))) (ap (λ xs. run (WantTy (Typed j n x ∷ i.frames)) xs) g.tokens ∙ complete_ty g.derived (Typed j n x ∷ i.frames) end lev g.ends)

        pub no_dot : IsNot tok.Dot end → Fault_of m l Formula ts (fault.Syntax (length end))
        no_dot bad = here m (Begun l Formula) (Below l 6) (stance l Formula) (at l (tok.Quant j n) ∷ at l (tok.Word x) ∷ at l tok.Colon ∷ g.placed) ts end type_front (room, (room, (room, g.within)))
            (at l tok.Dot ∷ at (l + 1) (tok.Word anon) ∷ [], _, bind g.derived (as_formula (as_neg name)))
            (λ i. type_walk i ∙ ap (λ r. goes (at l (tok.Quant j n) ∷ at l (tok.Word x) ∷ at l tok.Colon ∷ g.placed) r) (stuck end g.ends bad i.frames))
          where
            stuck : (us : List Tok) → EndsTy Whole us → IsNot tok.Dot us → (k : List Frame) → run (HaveTy a (Typed j n x ∷ k)) us ≡ end_of us
            stuck [] e bad k = refl
            stuck (tok.Arrow ∷ us) e bad k = absurd e
            stuck (tok.Dot ∷ us) e bad k = absurd (bad us refl)
            stuck (_ ∷ us) e bad k = refl

        module _ (more : List Tok) (dot_is : end ≡ tok.Dot ∷ more) where
          abbrev front : List Placed
          front = at l (tok.Quant j n) ∷ at l (tok.Word x) ∷ at l tok.Colon ∷ g.placed

          pub body_fails : (e : Fault) → Fault_of m (l + 1) Formula more e → Fault_of m l Formula ts e
          body_fails e h = inside m (Begun l Formula) (Begun (l + 1) Formula) (Below l 6) (Below (l + 1) 6) (stance l Formula) (stance (l + 1) Formula)
              (at l (tok.Quant j n) ∷ at l (tok.Word x) ∷ at l tok.Colon ∷ (g.placed ++ at l tok.Dot ∷ [])) ts more
              (type_front ∙ ap (λ xs. tok.Quant j n ∷ tok.Word x ∷ tok.Colon ∷ xs) (ap (λ xs. put g.placed xs) dot_is ∙ sym (put-append g.placed (at l tok.Dot ∷ []) more)))
              (room, (room, (room, within-append m g.placed (at l tok.Dot ∷ []) g.within (room, tt))))
              (λ q b. (b.0, _, subst (λ p. Derives l Formula (at l (tok.Quant j n) ∷ at l (tok.Word x) ∷ at l tok.Colon ∷ p) (tree.Bind j n x a b.1)) (sym (regroup g.placed q b.0 (at l tok.Dot))) (bind g.derived b.2)))
              (λ i. (
                record { frames = Bind j n x a ∷ i.frames; is_level = ap (λ n. n + 1) i.is_level; is_rank = omega arith },
                type_walk i ∙ ap (λ r. Goes l (Goes l (Goes l r))) (ap (λ r. goes g.placed r) (ap (λ xs. run (HaveTy a (Typed j n x ∷ i.frames)) xs) dot_is ∙
                    ap (λ v. Goes v (run (Want 2 (Bind j n x a ∷ i.frames)) more)) i.is_level) ∙ sym (goes-append g.placed (at l tok.Dot ∷ []) (run (Want 2 (Bind j n x a ∷ i.frames)) more))),
              ))
              e h

          pub bound_ok : (b : Tree) (rest : List Tok) → Got m (l + 1) Formula more b rest → Got m l Formula ts (tree.Bind j n x a b) rest
          bound_ok b rest h = record {
            room = room;
            placed = at l (tok.Quant j n) ∷ at l (tok.Word x) ∷ at l tok.Colon ∷ g.placed ++ at l tok.Dot ∷ h.placed;
            derived = bind g.derived h.derived;
            within = (room, (room, (room, within-append m g.placed (at l tok.Dot ∷ h.placed) g.within (room, h.within))));
            tokens = type_front ∙ ap (λ xs. tok.Quant j n ∷ tok.Word x ∷ tok.Colon ∷ xs) (ap (λ xs. put g.placed xs) (dot_is ∙ ap (λ xs. tok.Dot ∷ xs) h.tokens) ∙ sym (put-append g.placed (at l tok.Dot ∷ h.placed) rest));
            ends = h.ends;
          }
