-- How the search for a subsuming substitution goes, under the bindings made so far.
use Rattle.std.specs.Prelude.{◌≡◌, ◌↔◌, ℕ, Bool, List, map, IsTrue, Option, IfSome}
use Rattle.fo_terms.specs.declared.term.FoTerm.{FoTerm}
use Rattle.fo_terms.specs.declared.literal.Literal.{Literal}
use Rattle.fo_terms.specs.Substitution.{put, put_literal}
use Rattle.fo_cells.specs.declared.cell.Cell.{Cell}
use Rattle.fo_cells.specs.Binds.{Agrees}
use Rattle.fo_infer.specs.inner.Covering.{Sends}

-- an answer tells just whether P
abbrev pub Tells : Option Bool → Type 0 → Type 0
Tells answer P = IfSome answer (λ b. IsTrue b ↔ P)

-- a substitution that agrees with the bindings sends each literal to one of d's
abbrev pub Covers : List (ℕ × List Cell) → List Literal → List Literal → Type 0
Covers bs d ls = (v : ℕ → FoTerm) × Agrees v bs × Sends v d ls

-- it also sends l to m
abbrev pub CoversBy : List (ℕ × List Cell) → List Literal → List Literal → Literal → Literal → Type 0
CoversBy bs d ls l m = (v : ℕ → FoTerm) × Agrees v bs × (put_literal v l ≡ m) × Sends v d ls

-- it also makes the first terms the second ones
abbrev pub GoesOn : List (ℕ × List Cell) → List Literal → List Literal → List FoTerm → List FoTerm → Type 0
GoesOn bs d ls ps ts = (v : ℕ → FoTerm) × Agrees v bs × (map (put v) ps ≡ ts) × Sends v d ls
