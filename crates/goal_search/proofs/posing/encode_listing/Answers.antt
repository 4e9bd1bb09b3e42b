use Rattle.std.proofs.Common.{ap, ◌∙◌}
use Rattle.goal_search.specs.Encoded.{encoded, signs_in}
use Rattle.goal_search.proofs.posing.encode_listing.Goals as goal

pub returns-in-Ok : goal.returns-in-Ok
unfolding signs_in
returns-in-Ok c =
    (tt, c.clauses_alone.ensures ∙ c.in-Ok.ensures.clauses ∙ ap (λ signs. encoded signs c.args.listing.now.clauses) c.in-Ok.ensures.signs)
