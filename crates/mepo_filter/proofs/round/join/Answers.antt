use Rattle.std.proofs.Common.{◌∙◌, ap, get_or}
use Rattle.mepo_filter.specs.Constants.{with_all}
use Rattle.mepo_filter.specs.declared.placing.Scored.{Scored}
use Rattle.mepo_filter.specs.inner.Tables.{is_in}
use Rattle.mepo_filter.specs.inner.Steps.{candidate_of}
use Rattle.mepo_filter.proofs.Joined.{joined-more}
use Rattle.mepo_filter.proofs.round.join.Goals as goal

abbrev no_scored : Scored
no_scored = record { place = record { fact = 0; start = 0; end = 0 }; score = record { top = 0; bottom = 0 } }

pub loop-scored-preserved : goal.loop-scored-preserved
loop-scored-preserved c =
    let here = get_or c.args.taken.now c.loop-scored.scored-index no_scored in
    c.in_ok-insert_all.ensures ∙ ap (λ s. with_all s (candidate_of c.args.flat.now here).constants) c.loop-scored.invariant
    ∙ joined-more (is_in c.args.relevant.now) (candidate_of c.args.flat.now) c.args.taken.now c.loop-scored.scored-index no_scored c.loop-scored-test.true
