use Rattle.std.proofs.Common.{◌≡◌, map, take}
use Rattle.tptp_syntax.specs.Reading.{said}
use Rattle.tptp_syntax.proofs.read.names_of.Given as goal

abbrev pub invariant-loop-number : goal.invariant-loop-number
invariant-loop-number l = l.names ≡ map (said l.words) (take l.number l.symbols)
