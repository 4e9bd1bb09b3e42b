use Rattle.race_run.proofs.Losing.{outcome-unlost}
use Rattle.race_run.proofs.sweeping.sweep_waiting.Goals as goal

pub returns-else-is_open-clause-unlost : goal.returns-else-is_open-clause-unlost
returns-else-is_open-clause-unlost g c unlost = rw c.skip.ensures.ends (outcome-unlost c.pass_time.new.board.ends c.args.slot _ (rw c.pass_time.ensures.ends unlost))
