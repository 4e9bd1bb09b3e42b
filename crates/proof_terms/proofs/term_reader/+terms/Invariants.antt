use Rattle.std.proofs.Common.{◌*◌, ◌-◌}
use Rattle.proof_terms.proofs.term_reader.+terms.Given as goal

abbrev pub decreases-read_application : goal.decreases-read_application
decreases-read_application l = 2 * (4096 - l.level) - 1

abbrev pub decreases-read_lambda : goal.decreases-read_lambda
decreases-read_lambda l = 2 * (4096 - l.level) - 1

abbrev pub decreases-read_term : goal.decreases-read_term
decreases-read_term l = 2 * (4096 - l.level)
