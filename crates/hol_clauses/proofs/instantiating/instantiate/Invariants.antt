use Rattle.std.proofs.Common.{take}
use Rattle.hol_clauses.proofs.Instances.{Reached}
use Rattle.hol_clauses.proofs.instantiating.instantiate.Given as goal

abbrev pub invariant-loop-b : goal.invariant-loop-b
invariant-loop-b l = Reached l.initial.log l.log (take l.b-index l.bindings) l.fn.th.0 l.at.0
