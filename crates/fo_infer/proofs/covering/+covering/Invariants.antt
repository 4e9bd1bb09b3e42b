use Rattle.std.proofs.Common.{◌≡◌, ◌*◌, ◌-◌, drop, length}
use Rattle.fo_unify.specs.Shown.{as_binds}
use Rattle.fo_infer.specs.inner.Components.{literals}
use Rattle.fo_infer.proofs.Narrowing.{NoneBefore}
use Rattle.fo_infer.proofs.covering.+covering.Given as goal

abbrev pub invariant-covers-loop-m : goal.invariant-covers-loop-m
invariant-covers-loop-m l = record {
  same : l.binds ≡ l.initial.binds;
  none : NoneBefore (as_binds l.initial.binds) l.d (literals (drop l.fn.k l.c)) l.m-index;
}

abbrev pub decreases-covers : goal.decreases-covers
decreases-covers l = 2 * (length l.c.now - l.k)

abbrev pub decreases-covers_by : goal.decreases-covers_by
decreases-covers_by l = 2 * (length l.c.now - l.k) - 1
