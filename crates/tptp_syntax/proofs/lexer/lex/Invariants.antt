use Rattle.std.proofs.Common.{◌-◌, length}
use Rattle.tptp_syntax.proofs.Cutting.{CutSoFar}
use Rattle.tptp_syntax.proofs.lexer.lex.Given as goal

abbrev pub invariant-pieces : goal.invariant-pieces
invariant-pieces l = CutSoFar l.text l.at l.lexed

abbrev pub decreases-pieces : goal.decreases-pieces
decreases-pieces l = length l.text - l.at
