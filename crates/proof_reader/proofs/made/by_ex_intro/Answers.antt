use Rattle.std.proofs.Common.{[], ◌∷◌, refl}
use Rattle.proof_syntax.specs.Forms.{NumberArg, TermArg}
use Rattle.proof_reader.proofs.made.by_ex_intro.Goals as goal

pub returns-in-Ok : goal.returns-in-Ok
returns-in-Ok c = record { args = TermArg c.in-Ok.s ∷ TermArg c.in-Ok.t ∷ NumberArg c.in-Ok.a.0 ∷ []; got = c.in-Ok.ensures; made = (refl, refl, refl) }
