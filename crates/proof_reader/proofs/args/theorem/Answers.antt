use Rattle.proof_syntax.specs.Forms.{NumberArg}
use Rattle.proof_reader.proofs.ArgPieces as pieces
use Rattle.proof_reader.proofs.args.theorem.Goals as goal

pub returns-in-Ok : goal.returns-in-Ok
returns-in-Ok c = λ ns. pieces.got_last ns c.args.text.now c.in-Ok.rest.now (NumberArg c.in-Ok.a) (c.in-Ok.ensures ns)
