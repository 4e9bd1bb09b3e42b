use Rattle.std.proofs.Common.{rules, ◌∙◌, sym, subst}
use Rattle.std.specs.FinSet as set
use Rattle.hyp_sets.specs.declared.tree.Tree.TheFolds.{the_lemmas}
use Rattle.hyp_sets.specs.Sets.{set_of, Holds, Among}
use Rattle.hyp_sets.specs.inner.Trees.{items}
use Rattle.hyp_sets.proofs.Answered.{if_ok_map}
use Rattle.hyp_sets.proofs.Ascending.{before_among, after_among}
use Rattle.hyp_sets.proofs.Forks.{items_leaf, among_fork}
use Rattle.hyp_sets.proofs.Members.{none_held, among_trans}
use Rattle.hyp_sets.proofs.uniting.+covers.Goals as goal

pub returns-in-Leaf : goal.returns-in-Leaf
returns-in-Leaf t c told x m = absurd (none_held x (subst (λ z. Holds (set_of z) x) (items_leaf _ c.in-Leaf.is) m))

pub covers-requires : goal.covers-requires
covers-requires t c = (search (rules, the_lemmas), c.in_ok-cut-in-Fork.ensures.first)

pub covers-requires-then-branch : goal.covers-requires-then-branch
covers-requires-then-branch t c = (search (rules, the_lemmas), c.in_ok-cut-in-Fork.ensures.second)

pub returns-then-branch : goal.returns-then-branch
returns-then-branch t c =
    let own = set_of (items c.args.whole.now) in
    let before = set_of (items c.in_ok-cut-in-Fork.cut.before) in
    let after = set_of (items c.in_ok-cut-in-Fork.cut.after) in
    let first : Among before own = before_among _ _ _ _ _ c.in_ok-cut-in-Fork.ensures in
    let second : Among after own = after_among _ _ _ _ _ c.in_ok-cut-in-Fork.ensures in
    let here : Holds own c.in-Fork.k.term = (λ i. set.contains (set_of (items (sym c.get-in-Fork.ensures i))) (sym c.get-in-Fork-2.ensures i).term) ∙ sym c.has.ensures ∙ c.if-not-has.false in
    if_ok_map c.covers-then-branch.result _ _ (λ b h told. among_fork _ _ _ _ _ own c.in-Fork.is here
    (among_trans _ before own (subst (λ z. Among (set_of (items z)) before) c.get-in-Fork-4.ensures (c.in_ok-covers-in-Fork.ensures c.if-branch.true)) first)
    (among_trans _ after own (subst (λ z. Among (set_of (items z)) after) c.get-then-branch.ensures (h told)) second)) c.covers-then-branch.ensures
