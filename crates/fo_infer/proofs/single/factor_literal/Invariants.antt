use Rattle.std.proofs.Common.{[], map}
use Rattle.fo_infer.specs.declared.made.Rule.TheVariants.{Factor}
use Rattle.fo_infer.specs.Inferences.{AloneGives, upto}
use Rattle.fo_infer.specs.inner.Adding.{Adds}
use Rattle.fo_infer.specs.inner.Findings.{all_made}
use Rattle.fo_infer.proofs.single.factor_literal.Given as goal

abbrev pub invariant-loop-j : goal.invariant-loop-j
invariant-loop-j l = Adds (AloneGives l.p) (map (λ j. Factor l.fn.i j) (upto l.j)) (all_made l.p [] l.initial.out) (all_made l.p [] l.out)
