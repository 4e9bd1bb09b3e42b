use Rattle.std.specs.List.{flat_map}
use Rattle.fo_infer.specs.Inferences.{PairGives, position_rules, upto}
use Rattle.fo_infer.specs.inner.Adding.{Adds}
use Rattle.fo_infer.specs.inner.Places.{position_of}
use Rattle.fo_infer.specs.inner.Findings.{all_made}
use Rattle.fo_infer.proofs.paramodulating.para_direction.Given as goal

abbrev pub invariant-loop-j : goal.invariant-loop-j
invariant-loop-j l = Adds (PairGives (position_of l.from.plain) l.from.p.now l.from.q.now) (flat_map (position_rules l.from.apart.now l.from.i l.from.swapped) (upto l.j)) (all_made l.from.p.now l.from.apart.now l.initial.out) (all_made l.from.p.now l.from.apart.now l.out)
