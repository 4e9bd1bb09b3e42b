use Rattle.std.proofs.Common.{subst}
use Rattle.metis_core.specs.Closed.{Closed}
use Rattle.metis_core.specs.Searched.{state, StandsAt}
use Rattle.metis_core.specs.Inside.{view_of}
use Rattle.metis_core.proofs.Saturation.{saturated_closed}
use Rattle.metis_core.proofs.search.Search.turn.Goals as goal

pub returns-then-not-is_more-clause-closed : goal.returns-then-not-is_more-clause-closed
returns-then-not-is_more-clause-closed c =
    λ ended. subst (λ s. Closed s.given (state s)) c.self.view_is
    (saturated_closed c.self.inside.given c.self.inside.picks (state (view_of c.self.inside)) (subst (StandsAt (view_of c.self.inside)) ended c.self.invariant.stands))

pub returns-clause-closed : goal.returns-clause-closed
returns-clause-closed c =
    λ ended. subst (λ s. Closed s.given (state s)) c.self-2.view_is
    (saturated_closed c.self-2.inside.given c.self-2.inside.picks (state (view_of c.self-2.inside)) (subst (StandsAt (view_of c.self-2.inside)) ended c.self-2.invariant.stands))
