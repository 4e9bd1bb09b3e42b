use Rattle.std.proofs.Common.{◌≡◌, ◌++◌, drop, false}
use Rattle.tstp_read.specs.Tokens.{unescaped}
use Rattle.tstp_read.proofs.tokens.without_escapes.Given as goal

abbrev pub invariant-loop-byte : goal.invariant-loop-byte
invariant-loop-byte l = unescaped false l.bytes ≡ l.out ++ unescaped l.escaped (drop l.byte-index l.bytes)
