-- How the code holds the state of a search.
use Rattle.std.specs.Prelude.{◌≡◌, ℕ, nat_eq, List, [], ◌∷◌, ◌++◌, map, unwrap_or, Option, Some, IfSome, slice_get, slice_index_or, length, Contains, if◌then◌else◌, ◌==◌}
use Rattle.std.specs.declared.hash.FoldHasher.{FoldHasher}
use Rattle.std.specs.declared.hash.BuildHasherDefault.{BuildHasherDefault}
use Rattle.std.specs.HashMap.{get, HashMap}
use Rattle.fo_terms.specs.declared.clause.Clause.{Clause}
use Rattle.fo_terms.specs.declared.literal.Literal.{Literal}
use Rattle.fo_infer.specs.declared.refutation.Line.{Line}
use Rattle.cover_marks.specs.Marks.{clause_marks}
use Rattle.metis_core.specs.Print.{clause_print}

-- numbers of clauses by their prints
abbrev pub Places : Type 0
Places = HashMap ℕ (List ℕ) (BuildHasherDefault FoldHasher)

-- the numbers at a print
abbrev pub places_at : Places → ℕ → List ℕ
places_at m print = unwrap_or (get nat_eq m print) []

-- a number is put behind those at a print, and nothing else changes
abbrev pub Notes : Places → Places → ℕ → ℕ → Type 0
Notes old new print n = (q : ℕ) → places_at new q ≡ (if print == q then places_at old q ++ n ∷ [] else places_at old q)

-- each line's number stands at its clause's print
abbrev pub IsIndex : Places → List Line → Type 0
IsIndex m lines = (n : ℕ) (l : Line) → slice_get lines n ≡ Some l → Contains (places_at m (clause_print l.clause)) n

-- the clauses of lines
abbrev pub clauses : List Line → List Clause
clauses lines = map (λ l. l.clause) lines

-- items stand beside the clauses of these numbers, in their order, and each is so of its clause
pub record AreBeside {X : Type 0} (Is : Clause → X → Type 0) (lines : List Line) (numbers : List ℕ) (items : List X) : Type 0 where
  pub as_many : length items ≡ length numbers
  pub each : (k : ℕ) (p : Clause) (x : X) → slice_get items k ≡ Some x → slice_get (clauses lines) (slice_index_or numbers k 0) ≡ Some p → Is p x

-- the marks of the literals of the clauses of these numbers, in their order
abbrev pub AreMarks : List Line → List ℕ → List (List ℕ) → Type 0
AreMarks lines numbers marks = AreBeside (λ p m. m ≡ clause_marks p) lines numbers marks

-- what is prepared for a clause, where anything is, has its literals
abbrev pub IsReady : Clause → Option (List Literal) → Type 0
IsReady p ready = IfSome ready (λ ls. ls ≡ p.literals)

-- the clauses of these numbers as they are prepared, in their order
abbrev pub AreReady : List Line → List ℕ → List (Option (List Literal)) → Type 0
AreReady lines numbers ready = AreBeside IsReady lines numbers ready

-- the line of this number holds the clause
abbrev pub IsLine : List Line → Clause → ℕ → Type 0
IsLine lines c n = (l : Line) × (slice_get lines n ≡ Some l) × (l.clause ≡ c)
