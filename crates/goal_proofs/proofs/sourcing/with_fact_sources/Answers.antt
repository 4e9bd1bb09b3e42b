use Rattle.std.proofs.Common.{◌≡◌, false, sym, ap, subst, ◌∙◌}
use Rattle.std.specs.FinSet as set
use Rattle.hyp_sets.specs.Sets.{only}
use Rattle.hyp_sets.proofs.Answered.{if_ok_map}
use Rattle.kernel_rules.specs.Connectives.{neg}
use Rattle.hol_kernel.specs.Logs.{fact_at}
use Rattle.goal_search.specs.Inputs.{with_formula}
use Rattle.goal_proofs.specs.inner.Sourced.{AreSourced, more_sourced}
use Rattle.goal_proofs.proofs.Theorems.{one_sourced, listing_is, fit_within, nothing_within, fact_fits}
use Rattle.goal_proofs.proofs.sourcing.with_fact_sources.Goals as goal

pub fact_clauses-requires-clause-fact : goal.fact_clauses-requires-clause-fact
fact_clauses-requires-clause-fact c = fit_within c.args.log.now.env c.args.fact c.requires.fits

pub fact_clauses-requires-clause-table : goal.fact_clauses-requires-clause-table
fact_clauses-requires-clause-table c = c.requires.sourced.alone

pub returns-in-Ok-clause-facts : goal.returns-in-Ok-clause-facts
returns-in-Ok-clause-facts c = if_ok_map c.followed.result _ _ (λ s e. c.in-Ok.ensures.sources.1) c.followed.ensures

pub returns-in-Ok-clause-sourced : goal.returns-in-Ok-clause-sourced
returns-in-Ok-clause-sourced c =
    if_ok_map c.followed.result _ _
    (λ s e. subst (AreSourced c.fact_clauses.new.log) (sym e)
    (one_sourced c.args.log.now c.fact_clauses.new.log c.args.sourced false set.empty (fact_at c.args.log.now.env c.args.fact) c.in-Ok.sources c.fact_clauses.new.table c.fact_clauses.ensures.kept
    c.requires.sourced c.in-Ok.ensures.sources.0 (nothing_within _)))
    c.followed.ensures

pub returns-in-Ok-clause-listing : goal.returns-in-Ok-clause-listing
returns-in-Ok-clause-listing c =
    let old = c.args.log.now in
    let l = c.args.sourced.listing in
    if_ok_map c.followed.result _ _
    (λ s e. ap (λ z. z.listing) e
    ∙ listing_is c.fact_clauses.new.log.env.sig false l (fact_at old.env c.args.fact) c.args.sourced.thms c.in-Ok.sources c.fact_clauses.new.table c.in-Ok.ensures.sources.0.clauses
    ∙ ap (λ v. with_formula v.sig false l (fact_at old.env c.args.fact)) c.fact_clauses.ensures.kept.env)
    c.followed.ensures

pub unreachable-requires : goal.unreachable-requires
unreachable-requires c =
    fact_fits c.args.fact c.args.log.now c.args.sourced.listing.table c.in-Err.fault c.fact_clauses.new.log c.fact_clauses.new.table c.in-TooLarge.is c.requires.fits c.in-Err.ensures.sources
