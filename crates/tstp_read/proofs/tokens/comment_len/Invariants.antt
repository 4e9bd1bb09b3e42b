use Rattle.std.proofs.Common.{◌≡◌, drop, false}
use Rattle.tstp_read.specs.Tokens.{comment_end, more}
use Rattle.tstp_read.proofs.tokens.comment_len.Given as goal

abbrev pub invariant-loop-i : goal.invariant-loop-i
invariant-loop-i l = comment_end false l.text ≡ more l.i (comment_end l.starred (drop l.i l.text))
