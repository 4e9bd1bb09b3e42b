use Rattle.std.proofs.Common.{[], ◌∷◌}
use Rattle.proof_syntax.specs.Forms.{TermArg}
use Rattle.proof_reader.proofs.ArgPieces as pieces
use Rattle.proof_reader.proofs.made.by_term.Goals as goal

pub returns-in-Ok : goal.returns-in-Ok
returns-in-Ok c = record { args = TermArg c.in-Ok.t ∷ []; got = pieces.got_last c.args.names.now c.args.text.now c.in-Ok.rest.now (TermArg c.in-Ok.t) c.in-Ok.ensures; made = c.step.ensures }
