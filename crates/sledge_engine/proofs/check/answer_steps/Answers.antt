use Rattle.std.proofs.Common.{◌≡◌, Err, IfOk, subst}
use Rattle.hol_kernel.specs.Checking.{Checked}
use Rattle.sledge_engine.specs.Check.{StepsReply, refused}
use Rattle.sledge_engine.specs.Texts.{step_text}
use Rattle.sledge_engine.proofs.Replying.{reply_with}
use Rattle.sledge_engine.proofs.check.answer_steps.Goals as goal

pub returns-in-Err-Refused : goal.returns-in-Err-Refused
returns-in-Err-Refused c =
    let at = c.in-Err-Refused.at in
    let first = subst (λ e. Checked c.args.env.now c.args.steps (Err e)) c.in-Err-Refused.field-0-is c.in-Err-Refused.ensures in
    reply_with (StepsReply c.args.theory.now c.args.goal c.args.steps c.args.env.now) c.put_refused.result 7 (step_text at) c.put_refused.new.text
    (refused at first) (subst (λ n. IfOk c.put_refused.result (λ status. (status ≡ 7) × (c.put_refused.new.text ≡ step_text n))) c.in-Err-Refused.at-is c.put_refused.ensures)
