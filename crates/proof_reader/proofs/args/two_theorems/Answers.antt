use Rattle.std.proofs.Common.{[], ◌∷◌}
use Rattle.proof_syntax.specs.Forms.{NumberArg}
use Rattle.proof_syntax.specs.Machine.{NumberKind}
use Rattle.proof_reader.proofs.ArgPieces as pieces
use Rattle.proof_reader.proofs.args.two_theorems.Goals as goal

pub returns-in-Err-theorem : goal.returns-in-Err-theorem
returns-in-Err-theorem c = λ ns. pieces.later_fails ns c.args.text.now c.in-Ok.behind.now (NumberArg c.in-Ok.a) (NumberKind ∷ []) c.in-Err-theorem.e (c.in-Ok.ensures ns) (c.in-Err-theorem.ensures ns)

pub returns-in-Ok-theorem : goal.returns-in-Ok-theorem
returns-in-Ok-theorem c = λ ns. pieces.got_more ns c.args.text.now c.in-Ok.behind.now c.in-Ok-theorem.rest.now (NumberArg c.in-Ok.a) (NumberArg c.in-Ok-theorem.b.0 ∷ []) (c.in-Ok.ensures ns) (c.in-Ok-theorem.ensures ns)
