use Rattle.std.proofs.Common.{◌≡◌, true, sym, ap, subst, ◌∙◌}
use Rattle.hyp_sets.specs.Sets.{only}
use Rattle.hyp_sets.proofs.Answered.{if_ok_map}
use Rattle.kernel_rules.specs.Connectives.{neg}
use Rattle.goal_search.specs.Inputs.{with_formula}
use Rattle.goal_proofs.specs.inner.Sourced.{AreSourced}
use Rattle.goal_proofs.proofs.Theorems.{one_sourced, listing_is, goal_within, goal_may}
use Rattle.goal_proofs.proofs.sourcing.with_goal_sources.Goals as goal

pub goal_clauses-requires : goal.goal_clauses-requires
goal_clauses-requires c = record { table = c.requires.sourced.alone }

pub returns-in-Ok-clause-facts : goal.returns-in-Ok-clause-facts
returns-in-Ok-clause-facts c = if_ok_map c.followed.result _ _ (λ s e. c.in-Ok.ensures.sources.1) c.followed.ensures

pub returns-in-Ok-clause-sourced : goal.returns-in-Ok-clause-sourced
returns-in-Ok-clause-sourced c =
    let old = c.args.log.now in
    if_ok_map c.followed.result _ _
    (λ s e. subst (AreSourced c.goal_clauses.new.log) (sym e)
    (one_sourced old c.goal_clauses.new.log c.args.sourced true (only (neg old.env.goal)) old.env.goal c.in-Ok.sources c.goal_clauses.new.table c.goal_clauses.ensures.kept
    c.requires.sourced c.in-Ok.ensures.sources.0 (goal_within old.env c.goal_clauses.new.log.env c.goal_clauses.ensures.kept.env)))
    c.followed.ensures

pub returns-in-Ok-clause-listing : goal.returns-in-Ok-clause-listing
returns-in-Ok-clause-listing c =
    let old = c.args.log.now in
    let l = c.args.sourced.listing in
    if_ok_map c.followed.result _ _
    (λ s e. ap (λ z. z.listing) e
    ∙ listing_is c.goal_clauses.new.log.env.sig true l old.env.goal c.args.sourced.thms c.in-Ok.sources c.goal_clauses.new.table c.in-Ok.ensures.sources.0.clauses
    ∙ ap (λ v. with_formula v.sig true l old.env.goal) c.goal_clauses.ensures.kept.env)
    c.followed.ensures

pub unreachable-requires : goal.unreachable-requires
unreachable-requires c =
    goal_may c.args.log.now c.args.sourced.listing.table c.in-Err.fault c.goal_clauses.new.log c.goal_clauses.new.table c.in-TooLarge.is c.requires.fits c.in-Err.ensures.sources
