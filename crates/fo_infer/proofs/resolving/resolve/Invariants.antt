use Rattle.std.proofs.Common.{length}
use Rattle.std.specs.List.{flat_map}
use Rattle.fo_infer.specs.Inferences.{Position, PairGives, resolve_rules, upto}
use Rattle.fo_infer.specs.inner.Adding.{Adds}
use Rattle.fo_infer.specs.inner.Findings.{all_made}
use Rattle.fo_infer.proofs.resolving.resolve.Given as goal

abbrev pub invariant-loop-i : goal.invariant-loop-i
invariant-loop-i l = (position : Position) → Adds (PairGives position l.p l.q) (flat_map (resolve_rules (length l.q.literals)) (upto l.i)) (all_made l.p l.apart l.initial.out) (all_made l.p l.apart l.out)
