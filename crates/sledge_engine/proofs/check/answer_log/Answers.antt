use Rattle.std.proofs.Common.{◌≡◌, ◌∙◌, subst, sym}
use Rattle.kernel_rules.specs.Derivations.{Checks, derived}
use Rattle.theory_reader.specs.Sound.{goal_names}
use Rattle.proof_syntax.specs.Names.{name_in}
use Rattle.hol_terms.proofs.Both.{true_or_false}
use Rattle.sledge_engine.specs.Check.{StepsReply, other_end, proves}
use Rattle.sledge_engine.specs.Texts.{checked_text, step_text}
use Rattle.sledge_engine.specs.Used.{used_names}
use Rattle.sledge_engine.proofs.Items.{has}
use Rattle.sledge_engine.proofs.Replying.{reply_with}
use Rattle.sledge_engine.proofs.check.answer_log.Goals as goal

pub returns-then-proves : goal.returns-then-proves
returns-then-proves c =
    let t = c.args.theory.now in
    let number = c.args.goal in
    let log = c.args.log.now in
    let name = name_in (goal_names t.goals) number in
    let same : c.as_slice.result.now ≡ log.steps = c.as_slice.ensures ∙ c.steps.ensures in
    reply_with (StepsReply t number log.steps log.env) c.put_checked.result 0 (checked_text name (used_names t number c.as_slice.result.now)) c.put_checked.new.text
    (subst (λ s. StepsReply t number log.steps log.env 0 (checked_text name (used_names t number s))) (sym same)
    (proves (c.proves.ensures.proof.0 c.if-proves.true)))
    c.put_checked.ensures

pub returns-else-proves : goal.returns-else-proves
returns-else-proves c =
    let t = c.args.theory.now in
    let log = c.args.log.now in
    let checks : Checks log.env log.steps = has (derived log.env log.steps) log.sequents c.len.ensures.follows in
    reply_with (StepsReply t c.args.goal log.steps log.env) c.put_refused.result 7 (step_text c.len.result) c.put_refused.new.text
    (subst (λ n. StepsReply t c.args.goal log.steps log.env 7 (step_text n)) (sym c.len.ensures.count)
    (other_end checks (λ p. true_or_false c.proves.result (c.proves.ensures.proof.1 p) c.if-proves.false)))
    c.put_refused.ensures
