use Rattle.std.proofs.Common.{◌≡◌, ◌++◌, map, length}
use Rattle.fo_terms.specs.Substitution.{var}
use Rattle.fol_cnf.proofs.variables.listed.Given as goal

abbrev pub invariant-numbers : goal.invariant-numbers
invariant-numbers l = map var l.fn.found.keys ≡ l.out ++ map var l.rest.keys

abbrev pub decreases-numbers : goal.decreases-numbers
decreases-numbers l = length l.rest.keys
