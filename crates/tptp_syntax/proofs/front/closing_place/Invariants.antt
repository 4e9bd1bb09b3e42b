use Rattle.std.proofs.Common.{◌≡◌, false, drop}
use Rattle.tptp_syntax.specs.Tokens.{more, closing}
use Rattle.tptp_syntax.proofs.front.closing_place.Given as goal

abbrev pub invariant-loop-i : goal.invariant-loop-i
invariant-loop-i l = closing false l.text ≡ more l.i (closing l.escaped (drop l.i l.text))
