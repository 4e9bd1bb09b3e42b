-- A number made of a clause, by which equal clauses are sought.
use Rattle.std.specs.Prelude.{ℕ}
use Rattle.fo_terms.specs.declared.clause.Clause.{Clause}
use Rattle.fo_cells.specs.Print.{cells_print}

abbrev pub clause_print : Clause → ℕ
clause_print c = cells_print c.literals
