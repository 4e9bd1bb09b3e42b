use Rattle.std.proofs.Common.{length}
use Rattle.hol_lift.proofs.paths.+push_term_path.Given as goal

abbrev pub decreases-push_term_path : goal.decreases-push_term_path
decreases-push_term_path l = length l.path.now
