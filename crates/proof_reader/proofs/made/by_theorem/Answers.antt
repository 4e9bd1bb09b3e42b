use Rattle.std.proofs.Common.{[], ◌∷◌}
use Rattle.proof_syntax.specs.Forms.{NumberArg}
use Rattle.proof_reader.proofs.made.by_theorem.Goals as goal

pub returns-in-Ok : goal.returns-in-Ok
returns-in-Ok c = λ ns. record { args = NumberArg c.in-Ok.a.0 ∷ []; got = c.in-Ok.ensures ns; made = c.step.ensures }
