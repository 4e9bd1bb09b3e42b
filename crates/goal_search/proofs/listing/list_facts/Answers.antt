use Rattle.std.proofs.Common.{IsTrue, sym, ap, ◌∙◌, get_or}
use Rattle.std.proofs.lemmas.List.Sums.{fold_more}
use Rattle.goal_search.specs.Inputs.{with_fact, nothing}
use Rattle.goal_search.specs.Fitting.{fits_at}
use Rattle.goal_search.proofs.Pieces.{all_more}
use Rattle.goal_search.proofs.listing.list_facts.Goals as goal

pub loop-fact-preserved : goal.loop-fact-preserved
loop-fact-preserved c =
    let e = c.args.env.now in
    let xs = c.args.facts.now in
    let i = c.loop-fact.fact-index in
    record {
      fit = all_more (λ n. IsTrue (fits_at e n)) xs i c.loop-fact-test.true c.loop-fact.invariant.fit c.in-Ok.ensures.0;
      listed = c.in-Ok.ensures.1 ∙ ap (λ l. with_fact e l (get_or xs i 0)) c.loop-fact.invariant.listed ∙ sym (fold_more (with_fact e) nothing xs i 0 c.loop-fact-test.true);
    }
