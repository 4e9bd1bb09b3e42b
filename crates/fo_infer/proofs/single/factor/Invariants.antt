use Rattle.std.proofs.Common.{[], length}
use Rattle.std.specs.List.{flat_map}
use Rattle.fo_infer.specs.Inferences.{AloneGives, factor_rules, upto}
use Rattle.fo_infer.specs.inner.Adding.{Adds}
use Rattle.fo_infer.specs.inner.Findings.{all_made}
use Rattle.fo_infer.proofs.single.factor.Given as goal

abbrev pub invariant-loop-i : goal.invariant-loop-i
invariant-loop-i l = Adds (AloneGives l.p) (flat_map (factor_rules (length l.p.literals)) (upto l.i)) (all_made l.p [] l.initial.out) (all_made l.p [] l.out)
