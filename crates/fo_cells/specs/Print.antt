-- A number made of a clause, by which equal clauses are sought.
use Rattle.std.specs.Prelude.{ℕ, Bool, ◌+◌, ◌*◌, ◌%◌, ◌^◌, if◌then◌else◌, List, fold}
use Rattle.fo_cells.specs.declared.cell.Cell.{Cell}
use Rattle.fo_cells.specs.declared.cell.Cell.TheVariants.{Var, Fun}
use Rattle.fo_terms.specs.declared.literal.Literal.{Literal}
use Rattle.fo_cells.specs.Cells.{is_equation, atom_cells}

-- the value of one more digit, modulo 2^64
abbrev pub mixed : ℕ → ℕ → ℕ
mixed a b = ((a * 11400714819323198485) % 2 ^ 64 + b) % 2 ^ 64

abbrev pub cell_mixed : ℕ → Cell → ℕ
cell_mixed print (Var x) = mixed (mixed print 1) x
cell_mixed print (Fun n size f) = mixed (mixed print 2) f

abbrev pub head_mixed : ℕ → Bool → Bool → ℕ
head_mixed print positive equation = mixed (mixed print (if positive then 3 else 4)) (if equation then 5 else 6)

abbrev pub literal_mixed : ℕ → Literal → ℕ
literal_mixed print l = fold cell_mixed (head_mixed print l.positive (is_equation l.atom)) (atom_cells l.atom)

-- equal clauses share it
abbrev pub cells_print : List Literal → ℕ
cells_print ls = fold literal_mixed 7 ls
