use Rattle.std.proofs.Common.{◌-◌, length}
use Rattle.tptp_syntax.proofs.Going.{Going}
use Rattle.tptp_syntax.proofs.walk.read_tokens.Given as goal

abbrev pub invariant-tokens : goal.invariant-tokens
invariant-tokens l = Going l.toks l.at l.depth l.reader l.spot

abbrev pub decreases-tokens : goal.decreases-tokens
decreases-tokens l = length l.toks - l.at
