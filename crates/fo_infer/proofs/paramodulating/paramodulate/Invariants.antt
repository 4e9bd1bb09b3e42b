use Rattle.std.specs.List.{flat_map}
use Rattle.fo_infer.specs.Inferences.{PairGives, para_rules, renamed_apart, upto}
use Rattle.fo_infer.specs.inner.Adding.{Adds}
use Rattle.fo_infer.specs.inner.Places.{position_of}
use Rattle.fo_infer.specs.inner.Findings.{all_made}
use Rattle.fo_infer.proofs.paramodulating.paramodulate.Given as goal

abbrev pub invariant-loop-i : goal.invariant-loop-i
invariant-loop-i l = Adds (PairGives (position_of l.fn.plain) l.p l.q) (flat_map (para_rules (renamed_apart l.p l.q)) (upto l.i)) (all_made l.p l.fn.apart l.initial.out) (all_made l.p l.fn.apart l.out)
