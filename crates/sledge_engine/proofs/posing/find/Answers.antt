use Rattle.std.proofs.Common.{◌≡◌, ◌∙◌, None, subst, sym}
use Rattle.sledge_engine.specs.Choice.{goal_place}
use Rattle.sledge_engine.specs.Texts.{goal_text}
use Rattle.sledge_engine.specs.inner.Posing.{IsMissing, nowhere}
use Rattle.sledge_engine.proofs.posing.find.Goals as goal

pub returns-in_ok-status-in-None : goal.returns-in_ok-status-in-None
returns-in_ok-status-in-None c =
    let t = c.args.theory.now in
    let name = c.args.name.now in
    let put = c.in_ok-status-in-None.ensures in
    let none : goal_place t name ≡ None = subst (λ n. goal_place t n ≡ None) c.as_bytes.ensures.value (sym c.goal_named.ensures ∙ c.in-None.is) in
    (put.0, subst (IsMissing t name) (sym put.1) (subst (λ n. IsMissing t name (goal_text n)) (sym c.as_bytes-in-None.ensures.value) (nowhere none)))
