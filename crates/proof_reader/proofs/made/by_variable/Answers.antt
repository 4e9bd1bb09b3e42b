use Rattle.std.proofs.Common.{[], ◌∷◌}
use Rattle.proof_syntax.specs.Forms.{NumberArg, TypeArg}
use Rattle.proof_reader.proofs.made.by_variable.Goals as goal

pub returns-in-Ok : goal.returns-in-Ok
returns-in-Ok c = record { args = NumberArg c.in-Ok.variable ∷ TypeArg c.in-Ok.ty ∷ NumberArg c.in-Ok.a.0 ∷ []; got = c.in-Ok.ensures; made = c.step.ensures }
