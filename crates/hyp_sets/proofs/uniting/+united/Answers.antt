use Rattle.std.proofs.Common.{rules, ◌∙◌, sym, ap, subst}
use Rattle.std.specs.FinSet as set
use Rattle.hyp_sets.specs.declared.tree.Tree.TheFolds.{the_lemmas}
use Rattle.hyp_sets.specs.Sets.{set_of, Among}
use Rattle.hyp_sets.specs.inner.Trees.{items, Ascends, CutAt}
use Rattle.hyp_sets.proofs.Answered.{if_ok_map}
use Rattle.hyp_sets.proofs.Ascending.{united_ascends, united_set}
use Rattle.hyp_sets.proofs.Forks.{items_leaf, items_fork, halves}
use Rattle.hyp_sets.proofs.Kept.{union_within, union_around}
use Rattle.hyp_sets.proofs.Members.{none_among}
use Rattle.hyp_sets.proofs.uniting.+united.Goals as goal

pub united-requires : goal.united-requires
united-requires t c = (search (rules, the_lemmas), ((halves _ _ _ _ _ (sym c.get.ensures ∙ c.in-Fork-Fork.is-0) c.requires.first).first, c.in_ok-cut-in-Fork-Fork.ensures.first))

pub united-requires-in-Fork-Fork : goal.united-requires-in-Fork-Fork
united-requires-in-Fork-Fork t c = (search (rules, the_lemmas), ((halves _ _ _ _ _ (sym c.get.ensures ∙ c.in-Fork-Fork.is-0) c.requires.first).second, c.in_ok-cut-in-Fork-Fork.ensures.second))

pub returns-in-Leaf-default-clause-value : goal.returns-in-Leaf-default-clause-value
returns-in-Leaf-default-clause-value t c =
    if_ok_map c.again.result _ _ (λ u e. ap (λ z. set_of (items z)) e ∙ union_around (set_of (items c.args.s.now)) (set_of (items c.args.t.now)) (subst (λ z. Among (set_of z) (set_of (items c.args.t.now))) (sym (items_leaf c.args.s.now (sym c.get.ensures ∙ c.in-Leaf-default.is-0))) (none_among (set_of (items c.args.t.now)))))
    c.again.ensures

pub returns-in_default-Leaf-clause-value : goal.returns-in_default-Leaf-clause-value
returns-in_default-Leaf-clause-value t c =
    if_ok_map c.again-in_default-Leaf.result _ _ (λ u e. ap (λ z. set_of (items z)) e ∙ union_within (set_of (items c.args.s.now)) (set_of (items c.args.t.now)) (subst (λ z. Among (set_of z) (set_of (items c.args.s.now))) (sym (items_leaf c.args.t.now (sym c.get-2.ensures ∙ c.in_default-Leaf.is-1))) (none_among (set_of (items c.args.s.now)))))
    c.again-in_default-Leaf.ensures

pub returns-in_ok-right-in-Fork-Fork-clause-ascends : goal.returns-in_ok-right-in-Fork-Fork-clause-ascends
returns-in_ok-right-in-Fork-Fork-clause-ascends t c =
    let cut = c.in_ok-cut-in-Fork-Fork.cut in
    let here = subst (λ z. CutAt z.term (items c.args.t.now) (items cut.before) cut.held (items cut.after)) c.get-in-Fork-Fork.ensures c.in_ok-cut-in-Fork-Fork.ensures in
    if_ok_map c.join.result _ _ (λ u e. subst Ascends (sym e) (united_ascends (items c.in-Fork-Fork.l) c.in-Fork-Fork.k.term (items c.in-Fork-Fork.r) (items c.args.t.now) (items cut.before) cut.held (items cut.after) (items c.in_ok-left-in-Fork-Fork.left) (items c.in_ok-right-in-Fork-Fork.right)
    (halves _ _ _ _ _ (sym c.get.ensures ∙ c.in-Fork-Fork.is-0) c.requires.first) here c.in_ok-left-in-Fork-Fork.ensures.value c.in_ok-right-in-Fork-Fork.ensures.value c.in_ok-left-in-Fork-Fork.ensures.ascends c.in_ok-right-in-Fork-Fork.ensures.ascends))
    c.join.ensures

pub returns-in_ok-right-in-Fork-Fork-clause-value : goal.returns-in_ok-right-in-Fork-Fork-clause-value
returns-in_ok-right-in-Fork-Fork-clause-value t c =
    let cut = c.in_ok-cut-in-Fork-Fork.cut in
    let is = sym c.get.ensures ∙ c.in-Fork-Fork.is-0 in
    let here = subst (λ z. CutAt z.term (items c.args.t.now) (items cut.before) cut.held (items cut.after)) c.get-in-Fork-Fork.ensures c.in_ok-cut-in-Fork-Fork.ensures in
    if_ok_map c.join.result _ _ (λ u e. ap set_of e ∙ united_set (items c.in-Fork-Fork.l) c.in-Fork-Fork.k.term (items c.in-Fork-Fork.r) (items c.args.t.now) (items cut.before) cut.held (items cut.after) (items c.in_ok-left-in-Fork-Fork.left) (items c.in_ok-right-in-Fork-Fork.right)
    (halves _ _ _ _ _ is c.requires.first) here c.in_ok-left-in-Fork-Fork.ensures.value c.in_ok-right-in-Fork-Fork.ensures.value ∙ ap (λ z. set.union (set_of z) (set_of (items c.args.t.now))) (sym (items_fork _ _ _ _ _ is)))
    c.join.ensures
