use Rattle.std.proofs.Common.{subst, decimal, ◌≡◌, ◌∷◌}
use Rattle.proof_words.specs.Sharing.{IsOneOf}
use Rattle.proof_syntax.specs.Tokens.{Word, cut}
use Rattle.proof_reader.specs.inner.Words.{FailsWord, openings}
use Rattle.proof_reader.proofs.AllPieces as pieces
use Rattle.proof_reader.proofs.steps.read_steps.Goals as goal

pub steps-init : goal.steps-init
steps-init c = rw c.begin-steps.ensures (pieces.begins c.args.names.now c.args.text.now)

pub returns-in-Err : goal.returns-in-Err
returns-in-Err c = pieces.opening_fails c.args.names.now c.args.text.now c.steps.steps c.steps.rest.now c.steps.invariant c.in-Err.e
    (subst (λ n. FailsWord (IsOneOf (openings n)) c.steps.rest.now c.in-Err.e) c.len.ensures c.in-Err.ensures)

pub returns-in-Err-last : goal.returns-in-Err-last
returns-in-Err-last c = pieces.last_fails c.args.names.now c.args.text.now c.steps.steps c.steps.rest.now c.steps.invariant c.in-Ok-Last.end.now
    (rw c.in-Ok-Last.field-0-is at c.in-Ok-Last.ensures) c.in-Err-last.e c.in-Err-last.ensures

pub returns-in-Ok : goal.returns-in-Ok
returns-in-Ok c = pieces.finished c.args.names.now c.args.text.now c.steps.steps c.steps.rest.now c.steps.invariant c.in-Ok-Last.end.now
    (rw c.in-Ok-Last.field-0-is at c.in-Ok-Last.ensures) c.in-Ok.ensures

pub returns-in-Err-step : goal.returns-in-Err-step
returns-in-Err-step c = pieces.step_fails c.args.names.now c.args.text.now c.steps.steps c.steps.rest.now c.steps.invariant c.in-Ok-Numbered.numbered.now
    (subst (λ n. cut c.steps.rest.now ≡ Word (decimal n) ∷ cut c.in-Ok-Numbered.numbered.now) c.len.ensures (rw c.in-Ok-Numbered.field-0-is at c.in-Ok-Numbered.ensures))
    c.in-Err-step.e c.in-Err-step.ensures

pub steps-smaller : goal.steps-smaller
steps-smaller c = pieces.shorter c.args.names.now c.steps.rest.now c.in-Ok-Numbered.numbered.now c.in-Ok-step.behind.now c.len.result c.in-Ok-step.next
    (rw c.in-Ok-Numbered.field-0-is at c.in-Ok-Numbered.ensures) c.in-Ok-step.ensures

pub steps-preserved : goal.steps-preserved
steps-preserved c = rw c.in-Ok-push.ensures.ok (pieces.goes_on c.args.names.now c.args.text.now c.steps.steps c.steps.rest.now c.steps.invariant c.in-Ok-Numbered.numbered.now
    (subst (λ n. cut c.steps.rest.now ≡ Word (decimal n) ∷ cut c.in-Ok-Numbered.numbered.now) c.len.ensures (rw c.in-Ok-Numbered.field-0-is at c.in-Ok-Numbered.ensures))
    c.in-Ok-step.next c.in-Ok-step.behind.now c.in-Ok-step.ensures)
