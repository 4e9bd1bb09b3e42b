-- What the walk that makes clauses answers.
use Rattle.std.specs.Prelude.{◌≡◌, List}
use Rattle.lambda_lift.specs.declared.table.Aux.{Aux}
use Rattle.formula_clauses.specs.declared.listing.Listed.{Listed}
use Rattle.formula_clauses.specs.Walks.{Walked}
use Rattle.formula_clauses.specs.inner.Measures.{progress}

-- the clauses, and the progress that the walk has come to
abbrev pub Lists : Walked → Listed → List Aux → Type 0
Lists w r table = (w.clauses ≡ r.clauses) × (w.after ≡ progress r.next table)
