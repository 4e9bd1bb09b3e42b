use Rattle.std.proofs.Common.{[], ◌∷◌}
use Rattle.proof_syntax.specs.Forms.{NumberArg, TypeArg, TermArg}
use Rattle.proof_syntax.specs.Machine.{NumberKind, TypeKind, TermKind}
use Rattle.proof_reader.proofs.ArgPieces as pieces
use Rattle.proof_reader.proofs.args.variable_term_and_theorem.Goals as goal

pub returns-in-Err-type_term_and_theorem : goal.returns-in-Err-type_term_and_theorem
returns-in-Err-type_term_and_theorem c = pieces.later_fails c.args.names.now c.args.text.now c.in-Ok.behind.now (NumberArg c.in-Ok.variable) (TypeKind ∷ TermKind ∷ NumberKind ∷ []) c.in-Err-type_term_and_theorem.e (c.in-Ok.ensures c.args.names.now) c.in-Err-type_term_and_theorem.ensures

pub returns-in-Ok-type_term_and_theorem : goal.returns-in-Ok-type_term_and_theorem
returns-in-Ok-type_term_and_theorem c = pieces.got_more c.args.names.now c.args.text.now c.in-Ok.behind.now c.in-Ok-type_term_and_theorem.rest.now (NumberArg c.in-Ok.variable) (TypeArg c.in-Ok-type_term_and_theorem.ty ∷ TermArg c.in-Ok-type_term_and_theorem.t ∷ NumberArg c.in-Ok-type_term_and_theorem.a.0 ∷ []) (c.in-Ok.ensures c.args.names.now) c.in-Ok-type_term_and_theorem.ensures
