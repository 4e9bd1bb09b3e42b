use Rattle.race_run.proofs.Stepping.{passed-slots}
use Rattle.race_run.proofs.sweeping.pass_time.Goals as goal

pub returns-then-is_open-clause-slots : goal.returns-then-is_open-clause-slots
returns-then-is_open-clause-slots g c = passed-slots c.args.board.now c.expire.new.self c.expire.result _ c.requires.none c.expire.ensures.event c.expire.ensures.race
