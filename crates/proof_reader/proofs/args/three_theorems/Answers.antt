use Rattle.std.proofs.Common.{[], ◌∷◌}
use Rattle.proof_syntax.specs.Forms.{NumberArg}
use Rattle.proof_syntax.specs.Machine.{NumberKind}
use Rattle.proof_reader.proofs.ArgPieces as pieces
use Rattle.proof_reader.proofs.args.three_theorems.Goals as goal

pub returns-in-Err-two_theorems : goal.returns-in-Err-two_theorems
returns-in-Err-two_theorems c = λ ns. pieces.later_fails ns c.args.text.now c.in-Ok.behind.now (NumberArg c.in-Ok.a) (NumberKind ∷ NumberKind ∷ []) c.in-Err-two_theorems.e (c.in-Ok.ensures ns) (c.in-Err-two_theorems.ensures ns)

pub returns-in-Ok-two_theorems : goal.returns-in-Ok-two_theorems
returns-in-Ok-two_theorems c = λ ns. pieces.got_more ns c.args.text.now c.in-Ok.behind.now c.in-Ok-two_theorems.rest.now (NumberArg c.in-Ok.a) (NumberArg c.in-Ok-two_theorems.b.0 ∷ NumberArg c.in-Ok-two_theorems.c.0 ∷ []) (c.in-Ok.ensures ns) (c.in-Ok-two_theorems.ensures ns)
