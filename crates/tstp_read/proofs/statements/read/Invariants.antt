use Rattle.std.proofs.Common.{◌≡◌, take, Some}
use Rattle.tstp_read.specs.Tokens.{tokens_of}
use Rattle.tstp_read.specs.inner.Machine.{run, begun}
use Rattle.tstp_read.proofs.statements.read.Given as goal

abbrev pub invariant-loop-token : goal.invariant-loop-token
invariant-loop-token l = run begun (tokens_of l.text (take l.token-index l.tokens)) ≡ Some l.reader
