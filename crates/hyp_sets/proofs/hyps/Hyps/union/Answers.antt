use Rattle.std.proofs.Common.{◌∙◌, ap, subst}
use Rattle.hyp_sets.specs.Sets.{set_of, Among}
use Rattle.hyp_sets.specs.inner.Trees.{items}
use Rattle.hyp_sets.proofs.Answered.{if_ok_is}
use Rattle.hyp_sets.proofs.Kept.{union_within, union_around}
use Rattle.hyp_sets.proofs.hyps.Hyps.union.Goals as goal

pub returns-then-branch : goal.returns-then-branch
returns-then-branch c =
    let others = ap (λ z. set_of (items z)) c.get.ensures ∙ c.other.view_is in
    let within : Among (set_of (items c.get.result.now)) (set_of (items c.self.inside.tree)) = c.in_ok-covers.ensures c.if-branch.true in
    if_ok_is c.again.result _ _ (union_within c.args.self.now c.args.other.now (subst (λ z. Among c.args.other.now z) c.self.view_is (subst (λ z. Among z (set_of (items c.self.inside.tree))) others within))) c.again.ensures

pub returns-then-branch-2 : goal.returns-then-branch-2
returns-then-branch-2 c =
    let own = ap (λ z. set_of (items z)) c.get-else-branch.ensures ∙ c.self.view_is in
    let within : Among (set_of (items c.get-else-branch.result.now)) (set_of (items c.other.inside.tree)) = c.in_ok-covers-2.ensures c.if-branch-2.true in
    if_ok_is c.again-then-branch-2.result _ _ (union_around c.args.self.now c.args.other.now (subst (λ z. Among c.args.self.now z) c.other.view_is (subst (λ z. Among z (set_of (items c.other.inside.tree))) own within)))
    c.again-then-branch-2.ensures
