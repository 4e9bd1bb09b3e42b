use Rattle.std.proofs.Common.{◌≡◌, false, drop}
use Rattle.tptp_syntax.specs.Tokens.{more, comment_end}
use Rattle.tptp_syntax.proofs.front.comment_len.Given as goal

abbrev pub invariant-loop-i : goal.invariant-loop-i
invariant-loop-i l = comment_end false l.text ≡ more l.i (comment_end l.starred (drop l.i l.text))
