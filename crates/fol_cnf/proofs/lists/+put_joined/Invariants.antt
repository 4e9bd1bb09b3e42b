use Rattle.std.proofs.Common.{length}
use Rattle.fol_cnf.proofs.lists.+put_joined.Given as goal

abbrev pub decreases-put_joined : goal.decreases-put_joined
decreases-put_joined l = length l.cs.now
