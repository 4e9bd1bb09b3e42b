use Rattle.std.proofs.Common.{take}
use Rattle.hol_lift.proofs.Drops.{Dropped}
use Rattle.hol_lift.proofs.dropping.drop_refuted.Given as goal

abbrev pub invariant-loop-l : goal.invariant-loop-l
invariant-loop-l l = Dropped l.initial.log l.log (take l.l-index l.literals) l.fn.th.0 l.at.0
