use Rattle.std.proofs.Common.{◌∙◌}
use Rattle.race_board.proofs.Killing.{killing-goes}
use Rattle.race_board.proofs.kills.kill_running.Goals as goal

pub loop-slot-preserved : goal.loop-slot-preserved
loop-slot-preserved g c = (
  killing-goes c.args.slots.now c.args.ids.now c.loop-slot.slot _ _ _ _ _ c.requires.killable c.loop-slot.invariant.0 c.at-state.ensures c.at-id.ensures c.kill_one.ensures.kills,
  c.kill_one.ensures.same_children ∙ c.loop-slot.invariant.1,
)
