-- The search with a given clause, as whole lists.
use Rattle.std.specs.Prelude.{◌≡◌, ◌≢◌, ℕ, zero, suc, ◌<◌, ◌≤◌, List, [], ◌∷◌, map, Some, slice_get}
use Rattle.fo_terms.specs.declared.clause.Clause.{Clause}
use Rattle.fo_infer.specs.declared.made.Made.{Made}
use Rattle.fo_infer.specs.Inferences.{Alone, BetweenAt, Position, tagged_position, plain_position}
use Rattle.fo_terms.specs.Normal.{normal_of}
use Rattle.metis_core.specs.declared.given.Positions.{Positions}
use Rattle.metis_core.specs.declared.given.Positions.TheVariants.{Tagged, Plain}
use Rattle.metis_core.specs.declared.given.Given.{Given}
use Rattle.clause_ring.specs.declared.entry.Entry.{Entry}
use Rattle.metis_core.specs.declared.premises.Premises.{Premises}
use Rattle.metis_core.specs.declared.premises.Premises.TheVariants.{One, Two}
use Rattle.metis_core.specs.State.{State, nothing, activating}
use Rattle.metis_core.specs.Offer.{Passed, on, over, End, saturated, spent, Offer, Through}
use Rattle.metis_core.specs.Pick.{IsPicked}

-- where equations are put in
abbrev pub position_of : Positions → Position
position_of Tagged = tagged_position
position_of Plain = plain_position

-- the inputs in normal form
abbrev pub normal_forms : List Clause → List Clause
normal_forms inputs = map (λ c. record { literals = normal_of c.literals }) inputs

-- the list of inferences of kept clauses, by their numbers
abbrev pub Infers : Positions → State → Premises → List Made → Type 0
Infers positions s (One n) made = (p : Clause) × (slice_get s.kept n ≡ Some p) × Alone p made
Infers positions s (Two n m) made = (p : Clause) × (q : Clause) × (slice_get s.kept n ≡ Some p) × (slice_get s.kept m ≡ Some q) × BetweenAt (position_of positions) p q made

-- all inferences of these premises are offered
abbrev pub Inferred : Positions → State → Premises → Passed → Type 0
Inferred positions s premises out = (made : List Made) × Infers positions s premises made × Through Offer s (map (λ m. m.clause) made) out

-- the given clause g with each active one, g the last
abbrev pub pairs : ℕ → List ℕ → List Premises
pairs g [] = Two g g ∷ []
pairs g (a ∷ active) = Two a g ∷ Two g a ∷ pairs g active

-- the pick of this number: a waiting clause becomes active, and all its inferences are offered
abbrev pub Pick : Given → ℕ → State → Passed → Type 0
Pick given n s out = (e : Entry) × IsPicked given.age n s.waiting e
    × Through (Inferred given.positions) (activating s e.number) (One e.number ∷ pairs e.number s.active) out

-- the state after so many picks, with no end before
pub data Run (given : Given) : ℕ → State → Type 0 where
  inputs : {s : State} → Through Offer nothing (normal_forms given.inputs) (on s) → Run given zero s
  pick : {n : ℕ} {s t : State} → Run given n s → Pick given (suc n) s (on t) → Run given (suc n) t

-- the search ends so, after so many picks, in this state
pub data Search (given : Given) : End → ℕ → State → Type 0 where
  at_inputs : {e : End} {s : State} → Through Offer nothing (normal_forms given.inputs) (over e s) → Search given e zero s
  at_pick : {n : ℕ} {e : End} {s t : State} → Run given n s → n < given.budget → Pick given (suc n) s (over e t) → Search given e (suc n) t
  nothing_waits : {n : ℕ} {s : State} → Run given n s → n ≤ given.budget → s.waiting ≡ [] → Search given saturated n s
  budget_used : {n : ℕ} {s : State} → Run given n s → n ≡ given.budget → s.waiting ≢ [] → Search given spent n s
