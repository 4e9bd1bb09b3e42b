use Rattle.std.proofs.Common.{IsTrue, true, ap, ◌∙◌}
use Rattle.goal_search.specs.Inputs.{with_formula}
use Rattle.goal_search.specs.Fitting.{CanSearch, goal_fits}
use Rattle.goal_search.proofs.Pieces.{made_map}
use Rattle.goal_search.proofs.listing.list.Goals as goal

pub returns-in-Ok : goal.returns-in-Ok
returns-in-Ok c =
    let e = c.args.env.now in
    made_map (IsTrue (goal_fits e)) (CanSearch e c.args.facts.now) _ c.with_formula.result (λ h. record { facts_fit = c.in-Ok.ensures.0; goal_fits_too = h }) (λ can. can.goal_fits_too) _
    (λ l h. h ∙ ap (λ before. with_formula e.sig true before e.goal) c.in-Ok.ensures.1) c.with_formula.ensures
