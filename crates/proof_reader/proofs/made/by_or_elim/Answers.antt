use Rattle.std.proofs.Common.{[], ◌∷◌, refl}
use Rattle.proof_syntax.specs.Forms.{NumberArg}
use Rattle.proof_reader.proofs.made.by_or_elim.Goals as goal

pub returns-in-Ok : goal.returns-in-Ok
returns-in-Ok c = λ ns. record { args = NumberArg c.in-Ok.a.0 ∷ NumberArg c.in-Ok.b.0 ∷ NumberArg c.in-Ok.c.0 ∷ []; got = c.in-Ok.ensures ns; made = (refl, refl, refl) }
