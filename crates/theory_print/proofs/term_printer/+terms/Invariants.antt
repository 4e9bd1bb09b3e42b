use Rattle.std.proofs.Common.{◌+◌, ◌*◌}
use Rattle.theory_print.proofs.term_printer.+terms.Given as goal

abbrev pub decreases-put_term : goal.decreases-put_term
decreases-put_term l = 2 * l.room

abbrev pub decreases-put_apply : goal.decreases-put_apply
decreases-put_apply l = 2 * l.room + 1

abbrev pub decreases-put_equals : goal.decreases-put_equals
decreases-put_equals l = 2 * l.room + 1

abbrev pub decreases-put_not : goal.decreases-put_not
decreases-put_not l = 2 * l.room + 1

abbrev pub decreases-put_join : goal.decreases-put_join
decreases-put_join l = 2 * l.room + 1

abbrev pub decreases-put_bind : goal.decreases-put_bind
decreases-put_bind l = 2 * l.room + 1
