use Rattle.std.proofs.Common.{◌∙◌}
use Rattle.hyp_sets.specs.Sets.{set_of}
use Rattle.hyp_sets.specs.inner.Trees.{items}
use Rattle.hyp_sets.proofs.Answered.{if_ok_map}
use Rattle.hyp_sets.proofs.Kept.{union_swapped}
use Rattle.hyp_sets.proofs.uniting.gathered.Goals as goal

pub returns-then-weight_of-clause-value : goal.returns-then-weight_of-clause-value
returns-then-weight_of-clause-value c = if_ok_map c.united.result _ _ (λ u e. e ∙ union_swapped (set_of (items c.args.t.now)) (set_of (items c.args.s.now))) c.united.ensures.value
