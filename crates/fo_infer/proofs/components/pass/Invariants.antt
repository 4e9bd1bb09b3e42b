use Rattle.std.proofs.Common.{◌≡◌, ◌≤◌, take, length}
use Rattle.fo_infer.specs.inner.Components.{literals, Splits, Apart}
use Rattle.fo_infer.proofs.components.pass.Given as goal

abbrev pub invariant-loop-s : goal.invariant-loop-s
invariant-loop-s l = record {
  splits : Splits (literals l.initial.part) (literals (take l.s-index l.rest)) (literals l.part) (literals l.others);
  fewer : length (literals l.others) ≤ l.s-index;
  apart : length (literals l.others) ≡ l.s-index → Apart (literals l.part) (literals l.others);
}
