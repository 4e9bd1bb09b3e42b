use Rattle.std.proofs.Common.{◌≡◌, [], take}
use Rattle.fo_terms.specs.inner.Gathered.{all_added}
use Rattle.tagged_terms.specs.Readings.{signs_of}
use Rattle.tagged_lines.specs.Tags.{typed_variables}
use Rattle.clause_instances.specs.inner.Variables.{is_variable}
use Rattle.clause_instances.proofs.gathering.variables.Given as goal

abbrev pub invariant-loop-l : goal.invariant-loop-l
invariant-loop-l l = l.seen ≡ all_added is_variable [] (typed_variables (signs_of l.symbols) (take l.l-index l.literals))
