-- Terms as cells in reading order.
use Rattle.std.specs.Prelude.{◌≡◌, ℕ, ◌+◌, Bool, true, false, List, [], ◌∷◌, ◌++◌, length}
use Rattle.fo_cells.specs.declared.cell.Cell.{Cell}
use Rattle.fo_cells.specs.declared.cell.Cell.TheVariants.{Var, Fun}
use Rattle.fo_terms.specs.declared.term.FoTerm.{FoTerm}
use Rattle.fo_terms.specs.declared.term.FoTerm.TheOpen.{FoTerm-F}
use Rattle.fo_terms.specs.declared.term.FoTerm.TheFolds.{fold-FoTerm}
use Rattle.fo_terms.specs.declared.atom.Atom.{Atom}
use Rattle.fo_terms.specs.declared.atom.Atom.TheVariants.{Holds, Eq}

-- the lists in a row
abbrev pub joined : {X : Type 0} → List (List X) → List X
joined [] = []
joined (xs ∷ xss) = xs ++ joined xss

-- a symbol's cell says how many arguments it has, and how many cells it and they take
abbrev pub symbol_cells : ℕ → List (List Cell) → List Cell
symbol_cells f args = Fun (length args) (length (joined args) + 1) f ∷ joined args

abbrev pub cells_step : FoTerm-F (List Cell) → List Cell
cells_step (FoTerm-F.Var x) = Var x ∷ []
cells_step (FoTerm-F.Fun f args) = symbol_cells f args

-- the cells of a term
abbrev pub cells_of : FoTerm → List Cell
cells_of = fold-FoTerm (List Cell) cells_step

-- these cells are a term's
abbrev pub IsTerm : List Cell → Type 0
IsTerm cells = (t : FoTerm) × (cells_of t ≡ cells)

abbrev pub is_equation : Atom → Bool
is_equation (Holds t) = false
is_equation (Eq s t) = true

-- of an equation the left side stands first
abbrev pub atom_cells : Atom → List Cell
atom_cells (Holds t) = cells_of t
atom_cells (Eq s t) = cells_of s ++ cells_of t
