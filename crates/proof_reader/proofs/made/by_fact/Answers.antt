use Rattle.std.proofs.Common.{[], ◌∷◌, refl}
use Rattle.proof_syntax.specs.Forms.{FactArg}
use Rattle.proof_reader.proofs.ArgPieces as pieces
use Rattle.proof_reader.proofs.made.by_fact.Goals as goal

pub returns-in-Ok : goal.returns-in-Ok
returns-in-Ok c = record { args = FactArg c.in-Ok.number ∷ []; got = pieces.got_last c.args.names.now c.args.text.now c.in-Ok.rest.now (FactArg c.in-Ok.number) c.in-Ok.ensures; made = (refl, refl, refl) }
