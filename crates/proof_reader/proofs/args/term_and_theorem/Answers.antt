use Rattle.std.proofs.Common.{[], ◌∷◌}
use Rattle.proof_syntax.specs.Forms.{NumberArg, TermArg}
use Rattle.proof_syntax.specs.Machine.{NumberKind}
use Rattle.proof_reader.proofs.ArgPieces as pieces
use Rattle.proof_reader.proofs.args.term_and_theorem.Goals as goal

pub returns-in-Err-theorem : goal.returns-in-Err-theorem
returns-in-Err-theorem c = pieces.later_fails c.args.names.now c.args.text.now c.in-Ok.behind.now (TermArg c.in-Ok.t) (NumberKind ∷ []) c.in-Err-theorem.e c.in-Ok.ensures (c.in-Err-theorem.ensures c.args.names.now)

pub returns-in-Ok-theorem : goal.returns-in-Ok-theorem
returns-in-Ok-theorem c = pieces.got_more c.args.names.now c.args.text.now c.in-Ok.behind.now c.in-Ok-theorem.rest.now (TermArg c.in-Ok.t) (NumberArg c.in-Ok-theorem.a.0 ∷ []) c.in-Ok.ensures (c.in-Ok-theorem.ensures c.args.names.now)
