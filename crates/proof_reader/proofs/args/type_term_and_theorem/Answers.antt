use Rattle.std.proofs.Common.{[], ◌∷◌}
use Rattle.proof_syntax.specs.Forms.{NumberArg, TypeArg, TermArg}
use Rattle.proof_syntax.specs.Machine.{NumberKind, TermKind}
use Rattle.proof_reader.proofs.ArgPieces as pieces
use Rattle.proof_reader.proofs.args.type_term_and_theorem.Goals as goal

pub returns-in-Err-term_and_theorem : goal.returns-in-Err-term_and_theorem
returns-in-Err-term_and_theorem c = pieces.later_fails c.args.names.now c.args.text.now c.in-Ok.behind.now (TypeArg c.in-Ok.ty) (TermKind ∷ NumberKind ∷ []) c.in-Err-term_and_theorem.e c.in-Ok.ensures c.in-Err-term_and_theorem.ensures

pub returns-in-Ok-term_and_theorem : goal.returns-in-Ok-term_and_theorem
returns-in-Ok-term_and_theorem c = pieces.got_more c.args.names.now c.args.text.now c.in-Ok.behind.now c.in-Ok-term_and_theorem.rest.now (TypeArg c.in-Ok.ty) (TermArg c.in-Ok-term_and_theorem.t ∷ NumberArg c.in-Ok-term_and_theorem.a.0 ∷ []) c.in-Ok.ensures c.in-Ok-term_and_theorem.ensures
