use Rattle.std.proofs.Common.{◌+◌, ◌*◌, ◌-◌}
use Rattle.theory_syntax.proofs.type_reader.+types.Given as goal

abbrev pub decreases-deeper : goal.decreases-deeper
decreases-deeper l = 4 * (l.limit - l.level)

abbrev pub decreases-single : goal.decreases-single
decreases-single l = 4 * (l.limit - l.level) + 1

abbrev pub decreases-whole : goal.decreases-whole
decreases-whole l = 4 * (l.limit - l.level) + 2
