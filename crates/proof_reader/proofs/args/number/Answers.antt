use Rattle.proof_reader.proofs.ArgPieces as pieces
use Rattle.proof_syntax.specs.Machine.{NumberKind}
use Rattle.proof_reader.proofs.args.number.Goals as goal

pub returns-in-None : goal.returns-in-None
returns-in-None c = λ ns. pieces.no_space ns NumberKind c.args.text.now c.in-None.ensures

pub returns-in-Err : goal.returns-in-Err
returns-in-Err c = λ ns. pieces.number_fails ns c.args.text.now c.in-Some.inner.now c.in-Some.ensures c.in-Err.e c.in-Err.ensures

pub returns-in-Ok : goal.returns-in-Ok
returns-in-Ok c = λ ns. pieces.number_ok ns c.args.text.now _ c.in-Some.ensures _ _ c.in-Ok.ensures
