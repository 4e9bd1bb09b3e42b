use Rattle.std.proofs.Common.{◌≡◌, drop, false}
use Rattle.tstp_read.specs.Tokens.{closing, more}
use Rattle.tstp_read.proofs.tokens.closing_place.Given as goal

abbrev pub invariant-loop-i : goal.invariant-loop-i
invariant-loop-i l = closing l.quote false l.text ≡ more l.i (closing l.quote l.escaped (drop l.i l.text))
