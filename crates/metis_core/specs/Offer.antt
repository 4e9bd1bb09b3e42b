-- What becomes of a search when clauses in normal form are offered to it.
use Rattle.std.specs.Prelude.{◌≡◌, ◌≢◌, ℕ, ◌<◌, ◌≤◌, List, [], ◌∷◌, length, Contains, IsTrue}
use Rattle.fo_terms.specs.declared.clause.Clause.{Clause}
use Rattle.fo_terms.specs.Weight.{clause_size}
use Rattle.fo_terms.specs.Normal.{is_tautology}
use Rattle.fo_infer.specs.Subsumption.{Subsumes}
use Rattle.metis_core.specs.State.{State, keeping, IsActive}

-- what keeps a clause out
pub data Barred (s : State) (c : Clause) : Type 0 where
  tautology : IsTrue (is_tautology c.literals) → Barred s c
  heavy : 512 < clause_size c → Barred s c
  subsumed : (p : Clause) → IsActive s p → Subsumes p c → Barred s c
  known : Contains s.kept c → Barred s c

-- the clause is to be kept
abbrev pub Keep : State → Clause → Type 0
Keep s c = Barred s c → ⊥

-- how a search ends
pub data End : Type 0 where
  found : End
  saturated : End
  spent : End

-- a search goes on from a state, or is over in it
pub data Passed : Type 0 where
  on : State → Passed
  over : End → State → Passed

-- the most clauses that a search keeps
abbrev pub most_kept : ℕ
most_kept = 20000

-- one clause is offered
pub data Offer (s : State) (c : Clause) : Passed → Type 0 where
  -- the empty clause ends the search
  empty : c.literals ≡ [] → Offer s c (over found s)
  barred : c.literals ≢ [] → Barred s c → Offer s c (on s)
  kept : c.literals ≢ [] → Keep s c → length s.kept < most_kept → Offer s c (on (keeping s c))
  -- one clause too many ends it too
  full : c.literals ≢ [] → Keep s c → most_kept ≤ length s.kept → Offer s c (over spent s)

-- a step is made at each item of a list in turn, up to an end
pub data Through {A : Type 0} (Step : State → A → Passed → Type 0) : State → List A → Passed → Type 0 where
  done : {s : State} → Through Step s [] (on s)
  next : {s t : State} {x : A} {xs : List A} {out : Passed} → Step s x (on t) → Through Step t xs out → Through Step s (x ∷ xs) out
  ends : {s t : State} {e : End} {x : A} {xs : List A} → Step s x (over e t) → Through Step s (x ∷ xs) (over e t)
