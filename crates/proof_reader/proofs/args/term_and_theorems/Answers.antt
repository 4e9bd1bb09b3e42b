use Rattle.std.proofs.Common.{[], ◌∷◌}
use Rattle.proof_syntax.specs.Forms.{NumberArg, TermArg}
use Rattle.proof_syntax.specs.Machine.{NumberKind}
use Rattle.proof_reader.proofs.ArgPieces as pieces
use Rattle.proof_reader.proofs.args.term_and_theorems.Goals as goal

pub returns-in-Err-two_theorems : goal.returns-in-Err-two_theorems
returns-in-Err-two_theorems c = pieces.later_fails c.args.names.now c.args.text.now c.in-Ok.behind.now (TermArg c.in-Ok.t) (NumberKind ∷ NumberKind ∷ []) c.in-Err-two_theorems.e c.in-Ok.ensures (c.in-Err-two_theorems.ensures c.args.names.now)

pub returns-in-Ok-two_theorems : goal.returns-in-Ok-two_theorems
returns-in-Ok-two_theorems c = pieces.got_more c.args.names.now c.args.text.now c.in-Ok.behind.now c.in-Ok-two_theorems.rest.now (TermArg c.in-Ok.t) (NumberArg c.in-Ok-two_theorems.a.0 ∷ NumberArg c.in-Ok-two_theorems.b.0 ∷ []) c.in-Ok.ensures (c.in-Ok-two_theorems.ensures c.args.names.now)
