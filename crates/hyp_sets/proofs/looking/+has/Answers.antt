use Rattle.std.proofs.Common.{rules, ◌∙◌, sym, ap, subst}
use Rattle.std.specs.FinSet as set
use Rattle.hyp_sets.specs.declared.tree.Tree.TheFolds.{the_lemmas}
use Rattle.hyp_sets.specs.Order.{term_cmp}
use Rattle.hyp_sets.specs.Sets.{set_of}
use Rattle.hyp_sets.specs.inner.Trees.{items, Ascends}
use Rattle.hyp_sets.proofs.Ascending.{turned_round, held_here, held_before, held_after}
use Rattle.hyp_sets.proofs.Forks.{items_leaf, items_fork, halves}
use Rattle.hyp_sets.proofs.looking.+has.Goals as goal

pub has-requires : goal.has-requires
has-requires t c = (search (rules, the_lemmas), subst (λ z. Ascends (items z)) (sym c.get-in-Less.ensures) (halves _ _ _ _ _ c.in-Fork.is c.requires).first)

pub has-requires-in-Greater : goal.has-requires-in-Greater
has-requires-in-Greater t c = (search (rules, the_lemmas), subst (λ z. Ascends (items z)) (sym c.get-in-Greater.ensures) (halves _ _ _ _ _ c.in-Fork.is c.requires).second)

pub returns-in-Leaf : goal.returns-in-Leaf
returns-in-Leaf t c = sym (set.contains-empty term_cmp c.args.x.now) ∙ ap (λ z. set.contains (set_of z) c.args.x.now) (sym (items_leaf _ c.in-Leaf.is))

pub returns-in-Equal : goal.returns-in-Equal
returns-in-Equal t c =
    sym (held_here (items c.in-Fork.l) c.in-Fork.k.term (items c.in-Fork.r) c.args.x.now (c.compare.ensures.same.0 c.in-Equal.is ∙ ap (λ z. z.term) c.get.ensures))
    ∙ ap (λ z. set.contains (set_of z) c.args.x.now) (sym (items_fork _ _ _ _ _ c.in-Fork.is))

pub returns-in-Less : goal.returns-in-Less
returns-in-Less t c =
    c.has.ensures ∙ ap (λ z. set.contains (set_of (items z)) c.args.x.now) c.get-in-Less.ensures
    ∙ held_before (items c.in-Fork.l) c.in-Fork.k.term (items c.in-Fork.r) c.args.x.now (halves _ _ _ _ _ c.in-Fork.is c.requires) (ap (λ z. term_cmp c.args.x.now z.term) (sym c.get.ensures) ∙ sym c.compare.ensures.order ∙ c.in-Less.is)
    ∙ ap (λ z. set.contains (set_of z) c.args.x.now) (sym (items_fork _ _ _ _ _ c.in-Fork.is))

pub returns-in-Greater : goal.returns-in-Greater
returns-in-Greater t c =
    c.has-in-Greater.ensures ∙ ap (λ z. set.contains (set_of (items z)) c.args.x.now) c.get-in-Greater.ensures
    ∙ held_after (items c.in-Fork.l) c.in-Fork.k.term (items c.in-Fork.r) c.args.x.now (halves _ _ _ _ _ c.in-Fork.is c.requires) (turned_round c.args.x.now c.in-Fork.k.term (ap (λ z. term_cmp c.args.x.now z.term) (sym c.get.ensures) ∙ sym c.compare.ensures.order ∙ c.in-Greater.is))
    ∙ ap (λ z. set.contains (set_of z) c.args.x.now) (sym (items_fork _ _ _ _ _ c.in-Fork.is))
