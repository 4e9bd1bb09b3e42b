-- Induction over the trees of types and of terms, one premise for each constructor.
use Rattle.std.proofs.Common.{ℕ, Bool, List, [], ◌∷◌, map, subst}
use Rattle.theory_syntax.specs.declared.tokens.Word.{Word}
use Rattle.theory_syntax.specs.declared.tokens.Quant.{Quant}
use Rattle.theory_syntax.specs.declared.tree.Op.{Op}
use Rattle.theory_syntax.specs.declared.tree.TyTree.{TyTree, roll-TyTree}
use Rattle.theory_syntax.specs.declared.tree.TyTree.TheOpen.{TyTree-F}
use Rattle.theory_syntax.specs.declared.tree.TyTree.TheFolds.{ind-TyTree, map-TyTree}
use Rattle.theory_syntax.specs.declared.tree.Tree.{Tree, roll-Tree}
use Rattle.theory_syntax.specs.declared.tree.Tree.TheOpen.{Tree-F}
use Rattle.theory_syntax.specs.declared.tree.Tree.TheFolds.{ind-Tree, map-Tree}

module _ (P : TyTree → Type 0)
    (bool : P (roll-TyTree TyTree-F.Bool))
    (named : (w : Word) → P (roll-TyTree (TyTree-F.Named w)))
    (arrow : (a b : TyTree) → P a → P b → P (roll-TyTree (TyTree-F.Arrow a b))) where
  ty_at : (y : TyTree-F ((t : TyTree) × P t)) → P (roll-TyTree (map-TyTree ((t : TyTree) × P t) TyTree (λ e. e.0) y))
  ty_at TyTree-F.Bool = bool
  ty_at (TyTree-F.Named w) = named w
  ty_at (TyTree-F.Arrow a b) = arrow a.0 b.0 a.1 b.1

  pub type_cases : (t : TyTree) → P t
  type_cases = ind-TyTree P (λ x y is. subst (λ z. P (roll-TyTree z)) is (ty_at y))

-- the fact holds of each item
abbrev pub Each : {X : Type 0} → (X → Type 0) → List X → Type 0
Each P [] = Unit {0}
Each P (x ∷ xs) = P x × Each P xs

each_of : (P : Tree → Type 0) (ys : List ((t : Tree) × P t)) → Each P (map (λ e. e.0) ys)
each_of P [] = tt
each_of P (y ∷ ys) = (y.1, each_of P ys)

module _ (P : Tree → Type 0)
    (name : (w : Word) → P (roll-Tree (Tree-F.Name w)))
    (truth : (b : Bool) (n : ℕ) → P (roll-Tree (Tree-F.Truth b n)))
    (round : (n : ℕ) (t : Tree) → P t → P (roll-Tree (Tree-F.Round n t)))
    (apply : (f : Tree) (xs : List Tree) → P f → Each P xs → P (roll-Tree (Tree-F.Apply f xs)))
    (equals : (a b : Tree) → P a → P b → P (roll-Tree (Tree-F.Equals a b)))
    (negation : (n : ℕ) (a : Tree) → P a → P (roll-Tree (Tree-F.Not n a)))
    (join : (o : Op) (a b : Tree) → P a → P b → P (roll-Tree (Tree-F.Join o a b)))
    (bind : (q : Quant) (n : ℕ) (x : Word) (ty : TyTree) (b : Tree) → P b → P (roll-Tree (Tree-F.Bind q n x ty b))) where
  at : (y : Tree-F ((t : Tree) × P t)) → P (roll-Tree (map-Tree ((t : Tree) × P t) Tree (λ e. e.0) y))
  at (Tree-F.Name w) = name w
  at (Tree-F.Truth b n) = truth b n
  at (Tree-F.Round n t) = round n t.0 t.1
  at (Tree-F.Apply f ys) = apply f.0 (map (λ e. e.0) ys) f.1 (each_of P ys)
  at (Tree-F.Equals a b) = equals a.0 b.0 a.1 b.1
  at (Tree-F.Not n a) = negation n a.0 a.1
  at (Tree-F.Join o a b) = join o a.0 b.0 a.1 b.1
  at (Tree-F.Bind q n x ty b) = bind q n x ty b.0 b.1

  pub tree_cases : (t : Tree) → P t
  tree_cases = ind-Tree P (λ x y is. subst (λ z. P (roll-Tree z)) is (at y))
