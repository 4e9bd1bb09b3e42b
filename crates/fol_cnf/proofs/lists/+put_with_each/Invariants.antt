use Rattle.std.proofs.Common.{length}
use Rattle.fol_cnf.proofs.lists.+put_with_each.Given as goal

abbrev pub decreases-put_with_each : goal.decreases-put_with_each
decreases-put_with_each l = length l.ds.now
