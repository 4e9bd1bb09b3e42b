use Rattle.std.proofs.Common.{◌≡◌, ◌*◌, ◌≤◌, take}
use Rattle.mepo_filter.specs.Scores.{relevant_weight, irrelevant_weight}
use Rattle.mepo_filter.specs.inner.Tables.{is_in, weight_in}
use Rattle.mepo_filter.proofs.score.score_of.Given as goal

abbrev pub invariant-loop-constant : goal.invariant-loop-constant
invariant-loop-constant l = record {
  top : l.top ≡ relevant_weight (weight_in l.weights) (is_in l.relevant) (take l.constant-index l.constants);
  others : l.others ≡ irrelevant_weight (is_in l.relevant) (take l.constant-index l.constants);
  small_top : l.top ≤ 255 * l.constant-index;
  small_others : l.others ≤ 16 * l.constant-index;
}
