use Rattle.std.proofs.Common.{arith, ◌≤◌}
use Rattle.proof_syntax.specs.Grammar.{most}
use Rattle.proof_reader.proofs.ArgPieces as pieces
use Rattle.proof_syntax.specs.Machine.{TypeKind}
use Rattle.proof_reader.proofs.args.type_behind.Goals as goal

pub returns-in-None : goal.returns-in-None
returns-in-None c = pieces.no_space c.args.names.now TypeKind c.args.text.now c.in-None.ensures

pub returns-in-Err : goal.returns-in-Err
returns-in-Err c = let low : 0 ≤ most = omega arith in pieces.type_fails c.args.names.now c.args.text.now _ c.in-Some.ensures _ (c.in-Err.ensures 0 low)

pub returns-in-Ok : goal.returns-in-Ok
returns-in-Ok c = let low : 0 ≤ most = omega arith in pieces.type_ok c.args.names.now c.args.text.now _ c.in-Some.ensures _ _ (c.in-Ok.ensures 0 low)
