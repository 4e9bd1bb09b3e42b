use Rattle.std.proofs.Common.{refl, arith}
use Rattle.race_run.proofs.Losing.{kept-unlost}
use Rattle.race_run.proofs.Stepping.{launch-slots, reap-slots, settles-behind, unstarted, unstarted-none}
use Rattle.race_run.proofs.sweeping.run_slot.Goals as goal

pub returns-in-Up-clause-slots : goal.returns-in-Up-clause-slots
returns-in-Up-clause-slots g c =
    let up = launch-slots c.args.board.now.race c.launch.new.self.race c.args.slot c.in-Up.ensures.event.step in
    let down = reap-slots c.launch.new.self.race c.reap.new.self.race c.args.slot c.reap.ensures.event.step in
    settles-behind c.args.slot _ _ _ _ up (settles-behind c.args.slot _ _ _ _ down.1 c.settle_reaped.ensures.slots)

pub returns-in-Up-clause-unlost : goal.returns-in-Up-clause-unlost
returns-in-Up-clause-unlost g c unlost = c.settle_reaped.ensures.unlost (rw c.reap.ensures.ends (kept-unlost c.launch.new.self.ends c.args.slot _ refl (rw c.in-Up.ensures.ends unlost)))

pub returns-in-NoStart : goal.returns-in-NoStart
returns-in-NoStart g c =
    let same = unstarted c.args.slot c.args.board.now c.launch.new.self c.launch.result c.in-NoStart.is c.launch.ensures.event c.launch.ensures.ends in
    record {
      slots = same.slots;
      unlost = same.unlost;
      parts = c.launch.ensures.parts;
      amount = omega (arith, c.launch.ensures.share, unstarted-none c.launch.result c.in-NoStart.is);
    }
