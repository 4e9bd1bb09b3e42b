use Rattle.std.proofs.Common.{ap, ◌∙◌}
use Rattle.goal_search.specs.Encoded.{inputs, encoded, signs_in}
use Rattle.goal_search.specs.Fitting.{CanSearch}
use Rattle.goal_search.proofs.Pieces.{made_map}
use Rattle.goal_search.proofs.posing.inputs.Goals as goal

pub returns-in-Ok : goal.returns-in-Ok
unfolding inputs
returns-in-Ok c =
    let e = c.args.env.now in
    made_map _ (CanSearch e c.args.facts.now) _ c.encode_listing.result (λ h. c.in-Ok.ensures.0) (λ can. tt) _
    (λ cs h. h ∙ ap (λ l. encoded (signs_in e.sig l) l.clauses) c.in-Ok.ensures.1) c.encode_listing.ensures
