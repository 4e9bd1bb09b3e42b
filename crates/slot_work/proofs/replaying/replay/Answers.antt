use Rattle.std.proofs.Common.{sym, ap, subst, ◌∙◌}
use Rattle.fact_minimise.specs.Sublists.{IsSublist}
use Rattle.slot_work.proofs.Turning.{sublist_can}
use Rattle.slot_work.proofs.replaying.replay.Goals as goal

pub replay_facts-requires : goal.replay_facts-requires
replay_facts-requires c =
    let j = c.job.inside in
    sublist_can j.theory.now j.goal j.env c.args.facts.now c.job.invariant.env c.job.invariant.fits
    (subst (IsSublist c.args.facts.now) (ap (λ v. v.visible) (sym c.job.view_is) ∙ c.job.invariant.visible_is) c.requires)
