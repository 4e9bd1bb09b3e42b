use Rattle.std.proofs.Common.{◌++◌, ap, ◌∙◌}
use Rattle.goal_search.specs.Inputs.{with_formula}
use Rattle.goal_search.proofs.listing.with_formula.Goals as goal

pub returns-in-Ok-followed_by : goal.returns-in-Ok-followed_by
unfolding with_formula
returns-in-Ok-followed_by c =
    (c.in-Ok.ensures.0, (λ i. record { clauses = (c.in-Ok-followed_by.ensures ∙ ap (λ l. c.args.listing.clauses ++ l) c.in-Ok.ensures.1.0) i; table = c.in-Ok.ensures.1.1 i }))
