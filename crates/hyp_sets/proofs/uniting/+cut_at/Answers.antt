use Rattle.std.proofs.Common.{rules, ◌∙◌, sym, ap}
use Rattle.hyp_sets.specs.declared.tree.Tree.TheFolds.{the_lemmas}
use Rattle.hyp_sets.specs.Order.{term_cmp}
use Rattle.hyp_sets.specs.inner.Trees.{items}
use Rattle.hyp_sets.proofs.Ascending.{turned_round, nothing_cut, cut_here, cut_before, cut_after, cut_as}
use Rattle.hyp_sets.proofs.Forks.{items_leaf, items_fork, halves}
use Rattle.hyp_sets.proofs.uniting.+cut_at.Goals as goal

pub cut_at-requires : goal.cut_at-requires
cut_at-requires t c = (search (rules, the_lemmas), (halves _ _ _ _ _ (sym c.get.ensures ∙ c.in-Fork.is) c.requires).first)

pub cut_at-requires-in-Greater : goal.cut_at-requires-in-Greater
cut_at-requires-in-Greater t c = (search (rules, the_lemmas), (halves _ _ _ _ _ (sym c.get.ensures ∙ c.in-Fork.is) c.requires).second)

pub returns-in_ok-again-in-Leaf-2 : goal.returns-in_ok-again-in-Leaf-2
returns-in_ok-again-in-Leaf-2 t c =
    let none = sym (items_leaf c.args.t.now (sym c.get.ensures ∙ c.in-Leaf.is)) in
    cut_as c.args.x.now _ _ _ _ _ _ _ none (none ∙ ap items (sym c.in_ok-again-in-Leaf.ensures)) (none ∙ ap items (sym c.in_ok-again-in-Leaf-2.ensures)) (nothing_cut c.args.x.now)

pub returns-in_ok-again-in-Equal-2 : goal.returns-in_ok-again-in-Equal-2
returns-in_ok-again-in-Equal-2 t c =
    let is = sym c.get.ensures ∙ c.in-Fork.is in
    cut_as c.args.x.now _ _ _ _ _ _ _ (sym (items_fork _ _ _ _ _ is)) (ap items (sym c.in_ok-again-in-Equal.ensures)) (ap items (sym c.in_ok-again-in-Equal-2.ensures))
    (cut_here c.args.x.now (items c.in-Fork.l) c.in-Fork.k.term (items c.in-Fork.r) (halves _ _ _ _ _ is c.requires) (c.compare.ensures.same.0 c.in-Equal.is ∙ ap (λ z. z.term) c.get-in-Fork.ensures))

pub returns-in_ok-join-in-Less : goal.returns-in_ok-join-in-Less
returns-in_ok-join-in-Less t c =
    let is = sym c.get.ensures ∙ c.in-Fork.is in
    cut_as c.args.x.now _ _ _ _ _ _ _ (sym (items_fork _ _ _ _ _ is)) (ap items (sym c.in_ok-again-in-Less.ensures)) (sym c.in_ok-join-in-Less.ensures)
    (cut_before c.args.x.now (items c.in-Fork.l) c.in-Fork.k.term (items c.in-Fork.r) (items c.in_ok-left-in-Less.left.before) c.in_ok-left-in-Less.left.held (items c.in_ok-left-in-Less.left.after) (halves _ _ _ _ _ is c.requires)
    (ap (λ z. term_cmp c.args.x.now z.term) (sym c.get-in-Fork.ensures) ∙ sym c.compare.ensures.order ∙ c.in-Less.is) c.in_ok-left-in-Less.ensures)

pub returns-in_ok-again-in-Greater : goal.returns-in_ok-again-in-Greater
returns-in_ok-again-in-Greater t c =
    let is = sym c.get.ensures ∙ c.in-Fork.is in
    cut_as c.args.x.now _ _ _ _ _ _ _ (sym (items_fork _ _ _ _ _ is)) (sym c.in_ok-join-in-Greater.ensures) (ap items (sym c.in_ok-again-in-Greater.ensures))
    (cut_after c.args.x.now (items c.in-Fork.l) c.in-Fork.k.term (items c.in-Fork.r) (items c.in_ok-right-in-Greater.right.before) c.in_ok-right-in-Greater.right.held (items c.in_ok-right-in-Greater.right.after) (halves _ _ _ _ _ is c.requires)
    (turned_round c.args.x.now c.in-Fork.k.term (ap (λ z. term_cmp c.args.x.now z.term) (sym c.get-in-Fork.ensures) ∙ sym c.compare.ensures.order ∙ c.in-Greater.is)) c.in_ok-right-in-Greater.ensures)
