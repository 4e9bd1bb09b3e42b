use Rattle.std.proofs.Common.{ap, length, ◌<◌, subst, sym}
use Rattle.tstp_read.proofs.Searching as searching
use Rattle.tstp_read.proofs.reach.leaves.Goals as goal

pub returns-in_ok-leaves_from-in-Some : goal.returns-in_ok-leaves_from-in-Some
returns-in_ok-leaves_from-in-Some c = searching.found_at c.args.entries c.as_slice.result.now c.as_slice.ensures c.in-Some.root c.in-Some.ensures.within c.in-Some.ensures.root _ c.in_ok-leaves_from-in-Some.ensures
