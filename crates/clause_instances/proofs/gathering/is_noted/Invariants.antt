use Rattle.std.proofs.Common.{◌≡◌, drop}
use Rattle.std.specs.List.{list_any}
use Rattle.tagged_lines.specs.Tags.{variable_of}
use Rattle.clause_instances.specs.inner.Variables.{is_variable}
use Rattle.clause_instances.proofs.gathering.is_noted.Given as goal

abbrev pub invariant-loop-v : goal.invariant-loop-v
invariant-loop-v l = list_any (λ v. is_variable v (variable_of l.x l.ty)) (drop l.v-index l.seen) ≡ list_any (λ v. is_variable v (variable_of l.x l.ty)) l.seen
