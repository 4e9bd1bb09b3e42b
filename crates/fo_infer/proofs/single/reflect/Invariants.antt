use Rattle.std.proofs.Common.{[], map}
use Rattle.fo_infer.specs.declared.made.Rule.TheVariants.{Reflex}
use Rattle.fo_infer.specs.Inferences.{AloneGives, upto}
use Rattle.fo_infer.specs.inner.Adding.{Adds}
use Rattle.fo_infer.specs.inner.Findings.{all_made}
use Rattle.fo_infer.proofs.single.reflect.Given as goal

abbrev pub invariant-loop-i : goal.invariant-loop-i
invariant-loop-i l = Adds (AloneGives l.p) (map (λ i. Reflex i) (upto l.i)) (all_made l.p [] l.initial.out) (all_made l.p [] l.out)
