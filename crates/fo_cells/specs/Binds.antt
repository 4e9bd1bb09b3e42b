-- Variables that stand for cells.
use Rattle.std.specs.Prelude.{◌≡◌, ℕ, List, [], ◌∷◌}
use Rattle.fo_terms.specs.declared.term.FoTerm.{FoTerm}
use Rattle.fo_cells.specs.declared.cell.Cell.{Cell}
use Rattle.fo_cells.specs.declared.binds.Binds.{Binds}
use Rattle.fo_cells.specs.declared.binds.Binds.TheOpen.{Binds-F}
use Rattle.fo_cells.specs.declared.binds.Binds.TheFolds.{fold-Binds}
use Rattle.fo_cells.specs.Cells.{cells_of}

-- the variables and the cells that they stand for, the latest first
abbrev pub binds_step : Binds-F (List (ℕ × List Cell)) → List (ℕ × List Cell)
binds_step Binds-F.Nothing = []
binds_step (Binds-F.More x cells rest) = (x, cells.now) ∷ rest.now

abbrev pub binds_of : Binds → List (ℕ × List Cell)
binds_of = fold-Binds (List (ℕ × List Cell)) binds_step

-- the values of variables are those that they stand for
abbrev pub Agrees : (ℕ → FoTerm) → List (ℕ × List Cell) → Type 0
Agrees v [] = Unit {0}
Agrees v (b ∷ bs) = (cells_of (v b.0) ≡ b.1) × Agrees v bs

-- the variable stands for nothing
abbrev pub IsFree : ℕ → List (ℕ × List Cell) → Type 0
IsFree x [] = Unit {0}
IsFree x (b ∷ bs) = (b.0 ≡ x → ⊥) × IsFree x bs
