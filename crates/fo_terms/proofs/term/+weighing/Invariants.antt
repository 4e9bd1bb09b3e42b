use Rattle.std.proofs.Common.{◌≡◌, take}
use Rattle.fo_terms.specs.Weight.{size_of_all, capped}
use Rattle.fo_terms.proofs.term.+weighing.Given as goal

abbrev pub invariant-weight_all-loop-t : goal.invariant-weight_all-loop-t
invariant-weight_all-loop-t l = l.total ≡ capped (size_of_all (take l.t-index l.terms))
