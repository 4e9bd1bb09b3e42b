use Rattle.std.proofs.Common.{map}
use Rattle.fo_infer.specs.declared.made.Rule.TheVariants.{Resolve}
use Rattle.fo_infer.specs.Inferences.{Position, PairGives, upto}
use Rattle.fo_infer.specs.inner.Adding.{Adds}
use Rattle.fo_infer.specs.inner.Findings.{all_made}
use Rattle.fo_infer.proofs.resolving.resolve_literal.Given as goal

abbrev pub invariant-loop-j : goal.invariant-loop-j
invariant-loop-j l = (position : Position) → Adds (PairGives position l.p l.q) (map (λ j. Resolve l.fn.i j) (upto l.j)) (all_made l.p l.apart l.initial.out) (all_made l.p l.apart l.out)
