use Rattle.std.proofs.Common.{arith}
use Rattle.race_board.specs.Calls.{with_outcome}
use Rattle.race_board.proofs.Lists.{changed-at}
use Rattle.race_board.proofs.slot_ends.end_at.Goals as goal

pub returns : goal.returns
returns g c = changed-at (with_outcome c.args.outcome) c.args.slot _ _ (omega (arith, c.requires, c.args.ends.now.ok.0)) c.index_mut.ensures.value
