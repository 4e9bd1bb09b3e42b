use Rattle.race_run.proofs.Losing.{outcome-unlost}
use Rattle.race_run.proofs.settling.settle_reaped.Goals as goal

pub returns-clause-unlost : goal.returns-clause-unlost
returns-clause-unlost g c unlost = rw c.settle.ensures.ends (outcome-unlost c.args.board.now.ends c.args.slot _ unlost)
