-- What calls tell of the search, and what follows of it.
use Rattle.std.proofs.Common.{◌≡◌, ℕ, ◌+◌, ◌<◌, ◌≤◌, inl, inr, List, [], ◌∷◌, ◌++◌, length, subst, sym, ap, ◌∙◌, arith, Bool, true, false, MatchBool, get_or, take, drop, All, Contains, Some, slice_get, Result, Ok, Err}
use Rattle.std.proofs.lemmas.List.{length_push, map-append, drop_more, drop_all, length-take, length-take-le, get_or-take}
use Rattle.std.proofs.lemmas.Option.{get_or_from_slice_get, slice_get_within}
use Rattle.std.proofs.lemmas.List.Elements.{All-weaker}
use Rattle.fo_terms.specs.declared.clause.Clause.{Clause}
use Rattle.fo_light.specs.declared.made.FlatMade.{FlatMade}
use Rattle.fo_infer.specs.declared.refutation.Line.{Line}
use Rattle.fo_infer.specs.Inferences.{Position}
use Rattle.fo_infer.specs.Lines.{Follows, FollowFrom}
use Rattle.metis_core.specs.declared.given.Given.{Given}
use Rattle.metis_core.specs.declared.premises.Premises.{Premises}
use Rattle.metis_core.specs.declared.stop.Stop.{Stop}
use Rattle.metis_core.specs.declared.stop.Stop.TheVariants.{Found, Full, NoMemory}
use Rattle.metis_core.specs.State.{State}
use Rattle.metis_core.specs.Offer.{Passed, on, over, End, found, spent, Through, next, ends}
use Rattle.metis_core.specs.Search.{position_of, pairs}
use Rattle.clause_ring.specs.declared.entry.Entry.{Entry}
use Rattle.metis_core.specs.Pick.{IsOldest, IsLightest}
use Rattle.metis_core.specs.declared.premises.Premises.TheVariants.{Two}
use Rattle.metis_core.specs.Stock.{clauses}
use Rattle.metis_core.specs.Held.{Told, AddsLine, Ends, origin_of}
use Rattle.metis_core.proofs.Following.{follows_grow, follow_push}

-- ---- an exit

pub told_at : (r : Result (Unit {0}) Stop) (stop : Stop) (s : State) (P : Passed → Type 0) → r ≡ Err stop → Told (Err stop) s P → Told r s P
told_at r stop s P is h = subst (λ q. Told q s P) (sym is) h

pub ends_at : (given : Given) (r : Result (Unit {0}) Stop) (stop : Stop) (lines : List Line) → r ≡ Err stop → Ends given (Err stop) lines → Ends given r lines
ends_at given r stop lines is h = subst (λ q. Ends given q lines) (sym is) h

pub told_more : (stop : Stop) (s : State) (P Q : Passed → Type 0) → ((e : End) → P (over e s) → Q (over e s)) → Told (Err stop) s P → Told (Err stop) s Q
told_more (Found line) s P Q more h = more found h
told_more Full s P Q more h = more spent h
told_more NoMemory s P Q more h = tt

-- ---- a step of a walk through a list

module _ {A : Type 0} (Step : State → A → Passed → Type 0) (s t : State) (xs rest : List A) (x : A) (is : xs ≡ x ∷ rest) where
  pub goes_on : Step s x (on t) → (out : Passed) → Through Step t rest out → Through Step s xs out
  goes_on step out later = subst (λ l. Through Step s l out) (sym is) (next step later)

  pub is_over : (e : End) → Step s x (over e t) → Through Step s xs (over e t)
  is_over e step = subst (λ l. Through Step s l (over e t)) (sym is) (ends step)

-- ---- one more line

module _ (given : Given) (old new : List Line) (line : Line) (follow : FollowFrom (position_of given.positions) given.inputs [] old)
    (follows : Follows (position_of given.positions) given.inputs (clauses old) line.origin line.clause) where
  pushed : FollowFrom (position_of given.positions) given.inputs [] (old ++ line ∷ [])
  pushed = follow_push (position_of given.positions) given.inputs [] old line follow follows

  pub follow_added : AddsLine (Ok tt) old new line → FollowFrom (position_of given.positions) given.inputs [] new
  follow_added (inl same) = subst (FollowFrom (position_of given.positions) given.inputs []) (sym same) follow
  follow_added (inr more) = subst (FollowFrom (position_of given.positions) given.inputs []) (sym more) pushed

  pub ends_added : (stop : Stop) → AddsLine (Err stop) old new line → Ends given (Err stop) new
  ends_added (Found last) h = (
    subst (λ l. FollowFrom (position_of given.positions) given.inputs [] (l ++ last ∷ [])) (sym h.0)
        (subst (λ k. FollowFrom (position_of given.positions) given.inputs [] (old ++ k ∷ [])) (sym h.1) pushed),
    subst (λ k. k.clause.literals ≡ []) (sym h.1) h.2,
  )
  ends_added Full h = tt
  ends_added NoMemory h = tt

pub grows_added : (old new : List Line) (line : Line) → AddsLine (Ok tt) old new line → length old ≤ length new
grows_added old new line (inl same) = let size = ap length same in omega arith
grows_added old new line (inr more) = let size : length new ≡ length old + 1 = ap length more ∙ length_push old line in omega arith

-- what is still to be offered follows then too
pub ahead_added : (position : Position) (inputs : List Clause) (premises : Premises) (old new : List Line) (line : Line) (made : List FlatMade) → AddsLine (Ok tt) old new line
    → All (λ m. Follows position inputs (clauses old) (origin_of premises m.rule) (record { literals = m.clause })) made → All (λ m. Follows position inputs (clauses new) (origin_of premises m.rule) (record { literals = m.clause })) made
ahead_added position inputs premises old new line made (inl same) h = subst (λ l. All (λ m. Follows position inputs (clauses l) (origin_of premises m.rule) (record { literals = m.clause })) made) (sym same) h
ahead_added position inputs premises old new line made (inr more) h =
    subst (λ l. All (λ m. Follows position inputs (clauses l) (origin_of premises m.rule) (record { literals = m.clause })) made) (sym more)
    (subst (λ l. All (λ m. Follows position inputs l (origin_of premises m.rule) (record { literals = m.clause })) made) (sym (map-append (λ l. l.clause) old (line ∷ [])))
    (All-weaker (λ m. Follows position inputs (clauses old) (origin_of premises m.rule) (record { literals = m.clause })) (λ m. Follows position inputs (clauses old ++ line.clause ∷ []) (origin_of premises m.rule) (record { literals = m.clause }))
    (λ m follows. follows_grow position inputs (clauses old) (line.clause ∷ []) (origin_of premises m.rule) (record { literals = m.clause }) follows) made h))

-- ---- a call within a walk: what is left decides the whole

module _ {A : Type 0} (Step : State → A → Passed → Type 0) (s0 s t : State) (all ps rest : List A) (p : A)
    (whole : (out : Passed) → Through Step s ps out → Through Step s0 all out) (is : ps ≡ p ∷ rest) where
  pub exit : (r : Result (Unit {0}) Stop) (stop : Stop) → r ≡ Err stop → Told (Err stop) t (Step s p) → Told r t (Through Step s0 all)
  exit r stop e h = told_at r stop t (Through Step s0 all) e (told_more stop t (Step s p) (Through Step s0 all) (λ k here. whole (over k t) (is_over Step s t ps rest p is k here)) h)

  pub after : Step s p (on t) → (out : Passed) → Through Step t rest out → Through Step s0 all out
  after step out later = whole out (goes_on Step s t ps rest p is step out later)

-- ---- the given clause with each active one

pub pairs_at : (g : ℕ) (xs : List ℕ) (i a : ℕ) → i < length xs → a ≡ get_or xs i 0 → pairs g (drop i xs) ≡ Two a g ∷ (Two g a ∷ pairs g (drop (i + 1) xs))
pairs_at g xs i a within at = ap (pairs g) (drop_more xs i 0 within ∙ ap (λ x. x ∷ drop (i + 1) xs) (sym at))

pub pairs_end : (g : ℕ) (xs : List ℕ) (i : ℕ) → length xs ≤ i → pairs g (drop i xs) ≡ Two g g ∷ []
pairs_end g xs i past = ap (pairs g) (drop_all i xs past)

module _ (now before : List ℕ) (earlier i a : ℕ) (same : now ≡ before) (less : i < earlier) (few : earlier ≤ length before) (at : slice_get now i ≡ Some a) where
  pub earlier_within : i < length (take earlier before)
  earlier_within = omega (arith, length-take-le earlier before few)

  pub earlier_at : a ≡ get_or (take earlier before) i 0
  earlier_at = sym (get_or-take earlier before i 0 less ∙ get_or_from_slice_get before i a 0 (ap (λ l. slice_get l i) (sym same) ∙ at))

pub number_below : (numbers : List ℕ) (i a n : ℕ) → All (λ x. x < n) numbers → slice_get numbers i ≡ Some a → a < n
number_below numbers i a n below at = subst (λ x. x < n) (get_or_from_slice_get numbers i a a at) (below i a (slice_get_within numbers i a at))

pub earlier_end : (before : List ℕ) (earlier i : ℕ) → earlier ≤ i → length (take earlier before) ≤ i
earlier_end before earlier i past = omega (arith, length-take earlier before)

-- ---- a waiting clause becomes active

pub picked_held : (oldest : Bool) (waiting : List Entry) (e : Entry) → MatchBool oldest (IsOldest waiting e) (IsLightest waiting e) → Contains waiting e
picked_held true waiting e h = h.0
picked_held false waiting e h = h.0
