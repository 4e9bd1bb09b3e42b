use Rattle.std.proofs.Common.{ap, ◌∙◌, get_or}
use Rattle.mepo_filter.specs.inner.Tables.{is_in}
use Rattle.mepo_filter.specs.Constants.{with_constant}
use Rattle.mepo_filter.proofs.TableLemmas.{with_all-more}
use Rattle.mepo_filter.proofs.constant_set.ConstantSet.insert_all.Goals as goal

pub loop-constant-preserved : goal.loop-constant-preserved
loop-constant-preserved c =
    c.in_ok-insert.ensures ∙ ap (λ s. with_constant s (get_or c.args.constants.now c.loop-constant.constant-index 0)) c.loop-constant.invariant
    ∙ with_all-more (is_in c.args.self.now) c.args.constants.now c.loop-constant.constant-index c.loop-constant-test.true
