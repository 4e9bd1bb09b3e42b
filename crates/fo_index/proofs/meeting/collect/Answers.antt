use Rattle.std.proofs.Common.{get_or, refl}
use Rattle.fo_index.proofs.Collecting.{collects-more}
use Rattle.fo_index.proofs.meeting.collect.Goals as goal

pub loop-place-preserved : goal.loop-place-preserved
loop-place-preserved c =
    collects-more c.args.filed.now c.args.front.now c.args.places.now c.loop-place.place-index (get_or c.args.places.now c.loop-place.place-index 0) c.args.ids.now.items c.loop-place.ids.items c.consider.new.ids.items
    c.loop-place-test.true refl c.loop-place.invariant c.in_ok-consider.ensures
