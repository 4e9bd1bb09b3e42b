use Rattle.std.proofs.Common.{◌≡◌, ◌++◌, length}
use Rattle.formula_clauses.proofs.variables.listed.Given as goal

abbrev pub invariant-entries : goal.invariant-entries
invariant-entries l = l.fn.found.entries ≡ l.out ++ l.rest.entries

abbrev pub decreases-entries : goal.decreases-entries
decreases-entries l = length l.rest.entries
