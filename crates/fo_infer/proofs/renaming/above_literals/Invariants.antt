use Rattle.std.proofs.Common.{◌≡◌, max, take}
use Rattle.fo_terms.specs.Normal.{clause_variables}
use Rattle.fo_infer.specs.Inferences.{above_all}
use Rattle.fo_infer.proofs.renaming.above_literals.Given as goal

abbrev pub invariant-loop-l : goal.invariant-loop-l
invariant-loop-l l = l.n ≡ max 0 (above_all (clause_variables (take l.l-index l.literals)))
