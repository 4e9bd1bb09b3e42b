-- What a search holds: its clauses, and which of them are active and which wait.
use Rattle.std.specs.Prelude.{◌≡◌, ℕ, List, [], ◌∷◌, ◌++◌, length, Some, slice_get, Contains, not, ◌==◌, filter}
use Rattle.fo_terms.specs.declared.clause.Clause.{Clause}
use Rattle.fo_terms.specs.Weight.{clause_size}
use Rattle.clause_ring.specs.declared.entry.Entry.{Entry}

-- the waiting clauses but for the one of this number
abbrev pub without : ℕ → List Entry → List Entry
without n waiting = filter (λ e. not (e.number == n)) waiting

-- the kept clauses by number, the numbers of the active ones in the order in which they became active, and the waiting ones by weight and number
pub record State : Type 0 where
  pub kept : List Clause
  pub active : List ℕ
  pub waiting : List Entry

-- before any clause is offered
abbrev pub nothing : State
nothing = record { kept = []; active = []; waiting = [] }

-- the clause is kept with the next number, and waits
abbrev pub keeping : State → Clause → State
keeping s c = record { kept = s.kept ++ c ∷ []; active = s.active; waiting = s.waiting ++ record { weight = clause_size c; number = length s.kept } ∷ [] }

-- a waiting clause becomes active
abbrev pub activating : State → ℕ → State
activating s n = record { kept = s.kept; active = s.active ++ n ∷ []; waiting = without n s.waiting }

-- the clause is an active one
abbrev pub IsActive : State → Clause → Type 0
IsActive s c = (n : ℕ) × Contains s.active n × (slice_get s.kept n ≡ Some c)
