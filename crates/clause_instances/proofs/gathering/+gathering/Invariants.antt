use Rattle.std.proofs.Common.{◌≡◌, take}
use Rattle.fo_terms.specs.inner.Gathered.{all_added}
use Rattle.tagged_terms.specs.Readings.{signs_of}
use Rattle.tagged_lines.specs.Tags.{terms_variables}
use Rattle.clause_instances.specs.inner.Variables.{is_variable}
use Rattle.clause_instances.proofs.gathering.+gathering.Given as goal

abbrev pub invariant-gather_all-loop-t : goal.invariant-gather_all-loop-t
invariant-gather_all-loop-t l = l.seen ≡ all_added is_variable l.initial.seen (terms_variables (signs_of l.symbols) (take l.t-index l.terms))
