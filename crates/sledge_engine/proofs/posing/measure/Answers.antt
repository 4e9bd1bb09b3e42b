use Rattle.std.proofs.Common.{◌≡◌, ◌∙◌, false, true, subst, sym}
use Rattle.slot_work.specs.Visible.{goal_fits}
use Rattle.sledge_engine.specs.Texts.{large_goal_text}
use Rattle.sledge_engine.specs.inner.Posing.{IsMissing, large}
use Rattle.sledge_engine.proofs.Fitted.{goal_by}
use Rattle.sledge_engine.proofs.posing.measure.Goals as goal

pub returns-then-branch : goal.returns-then-branch
returns-then-branch c =
    let t = c.args.theory.now in
    let fits : goal_fits t c.args.goal ≡ true = sym (goal_by t c.args.goal c.in_ok-env.env c.in_ok-env.ensures) ∙ sym c.in_ok-fits.ensures ∙ c.if-branch.true in
    (c.requires.place, fits, c.requires.goal, c.in_ok-env.ensures, c.requires.text)

pub returns-in_ok-status : goal.returns-in_ok-status
returns-in_ok-status c =
    let t = c.args.theory.now in
    let name = c.args.name.now in
    let put = c.in_ok-status.ensures in
    let fits : goal_fits t c.args.goal ≡ false = sym (goal_by t c.args.goal c.in_ok-env.env c.in_ok-env.ensures) ∙ sym c.in_ok-fits.ensures ∙ c.if-branch.false in
    (put.0, subst (IsMissing t name) (sym put.1) (subst (λ n. IsMissing t name (large_goal_text n)) (sym c.as_bytes.ensures.value) (large c.args.goal c.requires.place fits)))
