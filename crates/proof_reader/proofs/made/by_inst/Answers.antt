use Rattle.std.proofs.Common.{[], ◌∷◌, refl}
use Rattle.proof_syntax.specs.Forms.{NumberArg, TypeArg, TermArg}
use Rattle.proof_reader.proofs.made.by_inst.Goals as goal

pub returns-in-Ok : goal.returns-in-Ok
returns-in-Ok c = record { args = NumberArg c.in-Ok.variable ∷ TypeArg c.in-Ok.ty ∷ TermArg c.in-Ok.t ∷ NumberArg c.in-Ok.a.0 ∷ []; got = c.in-Ok.ensures; made = (refl, refl, refl) }
