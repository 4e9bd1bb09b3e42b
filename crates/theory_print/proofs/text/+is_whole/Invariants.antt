use Rattle.theory_terms.specs.Meanings.{depth}
use Rattle.theory_print.proofs.text.+is_whole.Given as goal

abbrev pub decreases-is_whole : goal.decreases-is_whole
decreases-is_whole l = depth l.t.now
