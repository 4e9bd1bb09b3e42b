-- The leaves that are reached from the root.
use Rattle.std.specs.Prelude.{◌≡◌, ℕ, ◌⊎◌, ◌↔◌, List, [], ◌∷◌, ◌++◌, Contains, All}
use Rattle.std.specs.Ordering.{nat_cmp}
use Rattle.std.specs.Cmp.Lexicographic.{slice_cmp}
use Rattle.std.specs.List.Sorted.{IsStrictlySortedBy}
use Rattle.tstp_read.specs.declared.sources.Parent.{Parent}
use Rattle.tstp_read.specs.declared.sources.Parent.TheVariants as parent

-- `S` are the statements, `called` says their names, `Has` what their sources give, `Refutes` which are roots
module _ (S : Type 0) (called : S → List ℕ) (Has : S → Parent → Type 0) where
  -- the references and leaves that are reached from a root: its own, and those of each statement that a reference names
  pub data Reached (ss : List S) (root : S) : Parent → Type 0 where
    own : {p : Parent} → Has root p → Reached ss root p
    from : {n : List ℕ} {s : S} {p : Parent} → Reached ss root (parent.Reference n) → Contains ss s → called s ≡ n → Has s p → Reached ss root p

  abbrev pub IsUnknown : List S → List ℕ → Type 0
  IsUnknown ss n = (s : S) → Contains ss s → called s ≡ n → ⊥

  -- a leaf that is reached, or a reference to no statement
  abbrev pub IsLeaf : List S → S → List ℕ → Type 0
  IsLeaf ss root n = Reached ss root (parent.Leaf n) ⊎ (Reached ss root (parent.Reference n) × IsUnknown ss n)

  -- the names of the leaves that are reached, ascending by their bytes without repeats
  pub record AreLeaves (ss : List S) (root : S) (names : List (List ℕ)) : Type 0 where
    pub ascending : IsStrictlySortedBy (slice_cmp nat_cmp) names
    pub members : (n : List ℕ) → Contains names n ↔ IsLeaf ss root n

-- the first that refutes
pub record IsRoot (S : Type 0) (Refutes : S → Type 0) (ss : List S) (root : S) : Type 0 where
  pub front : List S
  pub rest : List S
  pub stands : ss ≡ front ++ root ∷ rest
  pub refutes : Refutes root
  pub none : All (λ s. Refutes s → ⊥) front

abbrev pub NoRoot : (S : Type 0) (Refutes : S → Type 0) → List S → Type 0
NoRoot S Refutes ss = All (λ s. Refutes s → ⊥) ss
