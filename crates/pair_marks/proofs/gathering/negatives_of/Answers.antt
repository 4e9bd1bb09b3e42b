use Rattle.std.proofs.Common.{◌≤◌, length, arith}
use Rattle.pair_marks.specs.Marking.{HasNegative}
use Rattle.pair_marks.proofs.Growing.{negative_grown, more_grown, all_at}
use Rattle.pair_marks.proofs.gathering.negatives_of.Goals as goal

pub loop-l-preserved : goal.loop-l-preserved
loop-l-preserved c =
    let old = c.loop-l.all in
    let new = c.with_negative-all.result in
    more_grown (HasNegative old) (HasNegative new) c.args.literals.now c.loop-l.l-index c.l-item.result c.l-item.result c.l-item.is (negative_grown old new c.with_negative-all.ensures.kept) c.with_negative-all.ensures.negative c.loop-l.invariant

pub returns : goal.returns
returns c = let over : length c.args.literals.now ≤ c.loop-l.l-index = omega arith in all_at (HasNegative c.loop-l.all) c.args.literals.now c.loop-l.l-index over c.loop-l.invariant
