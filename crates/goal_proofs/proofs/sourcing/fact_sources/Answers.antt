use Rattle.hol_kernel.proofs.Growing.{extends_trans}
use Rattle.goal_proofs.proofs.Facts.{fits_next, leaves_more, listed_more}
use Rattle.goal_proofs.proofs.sourcing.fact_sources.Goals as goal

pub with_fact_sources-requires-clause-fits : goal.with_fact_sources-requires-clause-fits
with_fact_sources-requires-clause-fits c =
    fits_next c.args.log.now.env c.loop-fact.log.env c.args.facts.now c.loop-fact.fact-index c.loop-fact.invariant.kept.env c.requires c.loop-fact-test.true

pub loop-fact-preserved : goal.loop-fact-preserved
loop-fact-preserved c = record {
  kept = extends_trans c.args.log.now c.loop-fact.log c.with_fact_sources.new.log c.loop-fact.invariant.kept c.with_fact_sources.ensures.kept;
  facts = leaves_more c.args.facts.now c.loop-fact.fact-index c.loop-fact-test.true _ _ _ c.loop-fact.invariant.facts c.in_ok-sourced.ensures.facts;
  sourced = c.in_ok-sourced.ensures.sourced;
  listing = listed_more c.args.log.now.env c.loop-fact.log.env c.args.facts.now c.loop-fact.fact-index c.loop-fact-test.true _ _ c.loop-fact.invariant.kept.env c.loop-fact.invariant.listing c.in_ok-sourced.ensures.listing;
}
