use Rattle.proof_reader.proofs.ArgPieces as pieces
use Rattle.proof_syntax.specs.Machine.{TermKind}
use Rattle.proof_reader.proofs.args.term.Goals as goal

pub returns-in-None : goal.returns-in-None
returns-in-None c = pieces.no_space c.args.names.now TermKind c.args.text.now c.in-None.ensures

pub returns-in-Err : goal.returns-in-Err
returns-in-Err c = pieces.term_fails c.args.names.now c.args.text.now _ c.in-Some.ensures _ c.in-Err.ensures

pub returns-in-Ok : goal.returns-in-Ok
returns-in-Ok c = pieces.term_ok c.args.names.now c.args.text.now _ c.in-Some.ensures _ _ c.in-Ok.ensures
