-- The terms of a leaf and of a fork.
use Rattle.std.proofs.Common.{◌≡◌, [], ◌∷◌, ◌++◌, ◌∙◌, sym, ap, subst, inl, inr, rules}
use Rattle.hyp_sets.specs.declared.tree.Item.{Item}
use Rattle.hyp_sets.specs.declared.tree.Weight.{Weight}
use Rattle.hyp_sets.specs.declared.tree.Tree.{Tree}
use Rattle.hyp_sets.specs.declared.tree.Tree.TheVariants.{Leaf, Fork}
use Rattle.hyp_sets.specs.declared.tree.Tree.TheFolds.{the_lemmas}
use Rattle.hyp_sets.specs.Sets.{TermSet, set_of, Holds, Among}
use Rattle.hyp_sets.specs.inner.Trees.{items, Ascends}
use Rattle.hyp_sets.proofs.Ascending.{Halves, in_two}
use Rattle.hyp_sets.proofs.Members.{holds_first}
use Rattle.hyp_sets.proofs.Joined.{holds_append}

pub items_leaf : (t : Tree) → t ≡ Leaf → items t ≡ []
items_leaf t e = ap items e ∙ search (rules, the_lemmas)

pub items_fork : (t l : Tree) (k : Item) (r : Tree) (w : Weight) → t ≡ Fork l k r w → items t ≡ items l ++ k.term ∷ items r
items_fork t l k r w e = ap items e ∙ search (rules, the_lemmas)

pub halves : (t l : Tree) (k : Item) (r : Tree) (w : Weight) → t ≡ Fork l k r w → Ascends (items t) → Halves (items l) k.term (items r)
halves t l k r w e h = in_two (items l) k.term (items r) (subst Ascends (items_fork t l k r w e) h)

-- a fork's terms are among those of a set that has its parts
pub among_fork : (t l : Tree) (k : Item) (r : Tree) (w : Weight) (s : TermSet) → t ≡ Fork l k r w → Holds s k.term → Among (set_of (items l)) s → Among (set_of (items r)) s → Among (set_of (items t)) s
among_fork t l k r w s e here left right x m =
    elim (holds_append (items l) (k.term ∷ items r) x (subst (λ z. Holds (set_of z) x) (items_fork t l k r w e) m)) [
      | inl n ↦ left x n
      | inr n ↦ elim (holds_first k.term (items r) x n) [ inl same ↦ subst (Holds s) (sym same) here | inr o ↦ right x o ]
    ]
