use Rattle.std.proofs.Common.{◌≡◌, ◌≤◌, ◌∙◌, ap, refl, sym, subst}
use Rattle.sledge_engine.specs.Orders.{orders_for}
use Rattle.sledge_engine.specs.Runs.{prove_contest}
use Rattle.sledge_engine.specs.inner.Trials.{IsContest}
use Rattle.sledge_engine.proofs.preparing.enter_prove.Goals as goal

pub plan_race-requires-clause-slices : goal.plan_race-requires-clause-slices
plan_race-requires-clause-slices g c κs within = subst (λ x. x.slices ≤ 64) (sym c.in_ok-contest.ensures) c.requires.contest.few

pub returns : goal.returns
returns g c = record {
  entry = record {
    goal = c.requires.goal;
    fits = c.requires.fits;
    contest = subst IsContest (sym c.in_ok-contest.ensures) c.requires.contest;
    visible_are = c.in_ok-visible.ensures.visible_are;
    orders = c.in_ok-visible.ensures.plan.orders;
  };
  theory = refl;
  goal_is = refl;
  contest = c.in_ok-contest.ensures;
  telling = refl;
}
