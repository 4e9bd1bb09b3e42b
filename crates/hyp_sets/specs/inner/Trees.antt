-- Lists that ascend, and trees as the lists of their terms.
use Rattle.std.specs.Prelude.{◌≡◌, Bool, if◌then◌else◌, List, [], ◌∷◌, ◌++◌}
use Rattle.std.specs.declared.cmp.Ordering.TheVariants.{Less}
use Rattle.hol_terms.specs.declared.term.Term.{Term}
use Rattle.hyp_sets.specs.declared.tree.Tree.{Tree}
use Rattle.hyp_sets.specs.declared.tree.Tree.TheOpen.{Tree-F}
use Rattle.hyp_sets.specs.declared.tree.Tree.TheFolds.{fold-Tree}
use Rattle.hyp_sets.specs.Order.{term_cmp}
use Rattle.hyp_sets.specs.Sets.{set_of, Holds}

-- the terms of a tree from left to right
abbrev pub items_step : Tree-F (List Term) → List Term
items_step Tree-F.Leaf = []
items_step (Tree-F.Fork l k r w) = l ++ k.term ∷ r

abbrev pub items : Tree → List Term
items = fold-Tree (List Term) items_step

-- each term of the list comes before `k`
abbrev pub Below : List Term → Term → Type 0
Below xs k = (x : Term) → Holds (set_of xs) x → term_cmp x k ≡ Less

-- each term of the list comes after `k`
abbrev pub Above : Term → List Term → Type 0
Above k xs = (x : Term) → Holds (set_of xs) x → term_cmp k x ≡ Less

-- each term comes before all that follow it
abbrev pub Ascends : List Term → Type 0
Ascends [] = Unit {0}
Ascends (x ∷ xs) = Above x xs × Ascends xs

-- `x` where it is held
abbrev pub where_held : Bool → Term → List Term
where_held held x = if held then x ∷ [] else []

-- an ascending list cut at `x`: the terms before `x`, whether it is there, and the terms after it
pub record CutAt (x : Term) (all before : List Term) (held : Bool) (after : List Term) : Type 0 where
  pub list : all ≡ before ++ (where_held held x ++ after)
  pub first : Ascends before
  pub second : Ascends after
  pub below : Below before x
  pub above : Above x after
