use Rattle.std.proofs.Common.{ℕ, get_or, map, ap, ◌∙◌}
use mathlib.Core.Path.{fun_ext}
use Rattle.mepo_filter.specs.Scores.{weight}
use Rattle.mepo_filter.proofs.TableLemmas.{get_or-map}
use Rattle.mepo_filter.proofs.weights.Weights.of.Goals as goal

pub returns : goal.returns
returns c = fun_ext (λ (n : ℕ).
    ap (λ l. get_or l n (weight 0)) (c.in_ok-weights.ensures ∙ ap (map weight) c.deref.ensures.value)
    ∙ get_or-map weight c.args.counts.now.counts.items n 0)
