use Rattle.std.proofs.Common.{◌≡◌, ◌∙◌, subst, sym}
use Rattle.fact_minimise.specs.Sublists.{IsSublist}
use Rattle.fact_minimise.proofs.Shorter.{sublist-self}
use Rattle.engine_tests.proofs.replays.replay_all.Goals as goal

pub replay-requires : goal.replay-requires
replay-requires c =
    let same : c.in_ok-facts.facts ≡ c.in_ok-job.job.visible = c.in_ok-facts.ensures ∙ sym c.in_ok-job.ensures.job.visible_is in
    subst (λ visible. IsSublist c.in_ok-facts.facts visible) same (sublist-self c.in_ok-facts.facts)
