use Rattle.std.proofs.Common.{◌≡◌, ◌++◌, drop, false}
use Rattle.tptp_syntax.specs.Tokens.{unescaped}
use Rattle.tptp_syntax.proofs.lexer.without_escapes.Given as goal

abbrev pub invariant-loop-byte : goal.invariant-loop-byte
invariant-loop-byte l = unescaped false l.bytes ≡ l.out.items ++ unescaped l.escaped (drop l.byte-index l.bytes)
