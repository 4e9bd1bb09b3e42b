use Rattle.std.proofs.Common.{◌≡◌}
use Rattle.tptp_syntax.specs.Grammar.{closed}
use Rattle.tptp_syntax.proofs.grown.closed_over.Given as goal

abbrev pub invariant-variables : goal.invariant-variables
invariant-variables l = closed l.left l.whole ≡ closed l.fn.count l.fn.a

abbrev pub decreases-variables : goal.decreases-variables
decreases-variables l = l.left
