use Rattle.std.proofs.Common.{[], ◌∷◌, ◌∙◌, sym, ap, subst}
use Rattle.std.specs.FinSet as set
use Rattle.hol_terms.specs.Substitution.{put_free, one_put}
use Rattle.hyp_sets.specs.Sets.{set_of, image}
use Rattle.hyp_sets.specs.inner.Trees.{items, Ascends}
use Rattle.hyp_sets.proofs.Answered.{if_ok_map}
use Rattle.hyp_sets.proofs.Ascending.{one_ascends}
use Rattle.hyp_sets.proofs.Forks.{items_leaf, items_fork}
use Rattle.hyp_sets.proofs.Images.{image_set_of, image_in_three}
use Rattle.hyp_sets.proofs.uniting.+all_replaced.Goals as goal

pub united-requires-clause-first : goal.united-requires-clause-first
united-requires-clause-first t c = subst Ascends (sym c.in_ok-one-in-Fork.ensures) (one_ascends c.in_ok-put_free-in-Fork.field-0)

pub returns-in-Leaf-clause-value : goal.returns-in-Leaf-clause-value
returns-in-Leaf-clause-value t c =
    let f = put_free (one_put c.args.n c.args.ty.now c.args.u.now) in
    let none = items_leaf c.args.t.now (sym c.get.ensures ∙ c.in-Leaf.is) in
    if_ok_map c.again.result _ _ (λ s e. ap (λ z. set_of (items z)) e ∙ ap set_of none ∙ image_set_of f [] ∙ ap (λ z. image f (set_of z)) (sym none)) c.again.ensures

pub returns-in_ok-one-in-Fork-clause-value : goal.returns-in_ok-one-in-Fork-clause-value
returns-in_ok-one-in-Fork-clause-value t c =
    let f = put_free (one_put c.args.n c.args.ty.now c.args.u.now) in
    let whole = items_fork c.args.t.now _ _ _ _ (sym c.get.ensures ∙ c.in-Fork.is) in
    let new = c.in_ok-put_free-in-Fork.ensures ∙ ap (λ z. f z.term) c.get-in-Fork.ensures in
    let one = ap set_of (c.in_ok-one-in-Fork.ensures ∙ ap (λ z. z ∷ []) new) in
    let sides = c.in_ok-sides-in-Fork.ensures.value ∙ (λ i. set.union (c.in_ok-left-in-Fork.ensures.value i) (c.in_ok-right-in-Fork.ensures.value i)) in
    if_ok_map c.united.result _ _ (λ s e. e ∙ (λ i. set.union (one i) (sides i)) ∙ image_in_three f (items c.in-Fork.l) c.in-Fork.k.term (items c.in-Fork.r) ∙ ap (λ z. image f (set_of z)) (sym whole))
    c.united.ensures.value
