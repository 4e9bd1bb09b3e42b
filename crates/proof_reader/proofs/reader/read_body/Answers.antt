use Rattle.std.proofs.Common.{subst}
use Rattle.proof_reader.specs.inner.Parts.{FailsSteps, GotSteps}
use Rattle.proof_reader.proofs.TextPieces as pieces
use Rattle.proof_reader.proofs.reader.read_body.Goals as goal

pub returns-in-Err-read_steps-clause-read : goal.returns-in-Err-read_steps-clause-read
returns-in-Err-read_steps-clause-read c = pieces.steps_fail c.args.theory.now c.args.body.now c.in-Ok.goal c.in-Ok.rest.now c.in-Ok.ensures.read c.in-Err-read_steps.e
    (subst (λ names. FailsSteps names c.in-Ok.rest.now c.in-Err-read_steps.e) c.in-Ok-lookup.ensures c.in-Err-read_steps.ensures)

pub returns-clause-read : goal.returns-clause-read
returns-clause-read c = pieces.body_ok c.args.theory.now c.args.body.now c.in-Ok.goal c.in-Ok.rest.now c.in-Ok.ensures.read c.in-Ok-read_steps.steps
    (subst (λ names. GotSteps names c.in-Ok.rest.now c.in-Ok-read_steps.steps) c.in-Ok-lookup.ensures c.in-Ok-read_steps.ensures)
