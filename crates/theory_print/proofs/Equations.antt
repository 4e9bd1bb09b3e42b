-- One equation for each definition at each constructor.
use Rattle.std.proofs.Common.{◌≡◌, ℕ, Bool, List, [], ◌∷◌, ◌++◌, map, ap}
use Rattle.hol_terms.specs.declared.ty.Ty.{Ty, roll-Ty}
use Rattle.hol_terms.specs.declared.ty.Ty.TheOpen.{Ty-F}
use Rattle.hol_terms.specs.declared.ty.Ty.TheFolds.{fold-roll-Ty}
use Rattle.hol_terms.specs.declared.konst.Konst.{Konst}
use Rattle.hol_terms.specs.declared.term.Term.{Term, roll-Term}
use Rattle.hol_terms.specs.declared.term.Term.TheOpen.{Term-F}
use Rattle.hol_terms.specs.declared.term.Term.TheFolds.{fold-roll-Term}
use Rattle.hol_terms.specs.Types.{bool_ty, function_ty}
use Rattle.theory_syntax.specs.declared.tokens.Word.{Word}
use Rattle.theory_syntax.specs.declared.tokens.Quant.{Quant}
use Rattle.theory_syntax.specs.declared.tree.Op.{Op}
use Rattle.theory_syntax.specs.declared.tree.TyTree.{TyTree, roll-TyTree}
use Rattle.theory_syntax.specs.declared.tree.TyTree as ty_views
use Rattle.theory_syntax.specs.declared.tree.TyTree.TheOpen.{TyTree-F}
use Rattle.theory_syntax.specs.declared.tree.TyTree.TheFolds.{fold-roll-TyTree}
use Rattle.theory_syntax.specs.declared.tree.TyTree.TheVariants as ty
use Rattle.theory_syntax.specs.declared.tree.Tree.{Tree, roll-Tree}
use Rattle.theory_syntax.specs.declared.tree.Tree as tree_views
use Rattle.theory_syntax.specs.declared.tree.Tree.TheOpen.{Tree-F}
use Rattle.theory_syntax.specs.declared.tree.Tree.TheFolds.{fold-roll-Tree}
use Rattle.theory_syntax.specs.declared.tree.Tree.TheVariants as tree
use Rattle.theory_syntax.specs.Grammar.{TypeSort, Whole, Single}
use Rattle.theory_terms.specs.Answers.{Answer, Good, and_then}
use Rattle.theory_terms.specs.Words.{word_at, place}
use Rattle.theory_terms.specs.Signature.{Declared}
use Rattle.theory_terms.specs.Types.{type_of_tree, type_step, named_type}
use Rattle.theory_terms.specs.Meanings.{Meaning, Scope, meaning, meaning_step, named, applied_all, between, equality, operator, negation, signed, bound, moved, constant, application, lambda, truth}
use Rattle.theory_print.specs.Lexemes.{Lexeme, Arrow}
use Rattle.theory_print.specs.Types.{type_lexemes, bracketed_type, base_lexeme}
use Rattle.theory_print.specs.Types.{type_step as lexeme_step}
use Rattle.theory_print.specs.Shapes.{Part, Whole as Whole_, Variable, part_of, part_step, applied as part_applied, under, constant_part}

-- ---- what a tree of a type means
module _ (text : List ℕ) (known : Declared) where
  pub bool_means : type_of_tree text known ty.Bool ≡ Good bool_ty
  unfolding ty_views.roll-TyTree denote.Hole.Carrier.roll
  bool_means = fold-roll-TyTree (Answer Ty) (type_step text known) TyTree-F.Bool

  pub named_ty : (w : Word) → type_of_tree text known (ty.Named w) ≡ named_type w.start (place (word_at text w) known.types)
  unfolding ty_views.roll-TyTree denote.Hole.Carrier.roll
  named_ty w = fold-roll-TyTree (Answer Ty) (type_step text known) (TyTree-F.Named w)

  pub arrow_ty : (a b : TyTree) →
      type_of_tree text known (ty.Arrow a b) ≡ and_then (type_of_tree text known a) (λ x. and_then (type_of_tree text known b) (λ y. Good (function_ty x y)))
  unfolding ty_views.roll-TyTree denote.Hole.Carrier.roll
  arrow_ty a b = fold-roll-TyTree (Answer Ty) (type_step text known) (TyTree-F.Arrow a b)

-- ---- what a tree of a term means
module _ (text : List ℕ) (known : Declared) (scope : Scope) where
  pub means_name : (w : Word) → meaning text known (tree.Name w) scope ≡ named text known w scope
  unfolding tree_views.roll-Tree denote.Hole.Carrier.roll
  means_name w = ap (λ g. g scope) (fold-roll-Tree (Scope → Answer Meaning) (meaning_step text known) (Tree-F.Name w))

  pub means_truth : (b : Bool) (n : ℕ) →
      meaning text known (tree.Truth b n) scope ≡ Good (record { at = n; term = constant (truth b); ty = bool_ty })
  unfolding tree_views.roll-Tree denote.Hole.Carrier.roll
  means_truth b n = ap (λ g. g scope) (fold-roll-Tree (Scope → Answer Meaning) (meaning_step text known) (Tree-F.Truth b n))

  pub means_round : (n : ℕ) (t : Tree) → meaning text known (tree.Round n t) scope ≡ and_then (meaning text known t scope) (moved n)
  unfolding tree_views.roll-Tree denote.Hole.Carrier.roll
  means_round n t = ap (λ g. g scope) (fold-roll-Tree (Scope → Answer Meaning) (meaning_step text known) (Tree-F.Round n t))

  pub means_apply : (f : Tree) (xs : List Tree) →
      meaning text known (tree.Apply f xs) scope ≡ applied_all (meaning text known f scope) (map (meaning text known) xs) scope
  unfolding tree_views.roll-Tree denote.Hole.Carrier.roll
  means_apply f xs = ap (λ g. g scope) (fold-roll-Tree (Scope → Answer Meaning) (meaning_step text known) (Tree-F.Apply f xs))

  pub means_equals : (a b : Tree) →
      meaning text known (tree.Equals a b) scope ≡ between equality (meaning text known a scope) (meaning text known b scope)
  unfolding tree_views.roll-Tree denote.Hole.Carrier.roll
  means_equals a b = ap (λ g. g scope) (fold-roll-Tree (Scope → Answer Meaning) (meaning_step text known) (Tree-F.Equals a b))

  pub means_not : (n : ℕ) (a : Tree) → meaning text known (tree.Not n a) scope ≡ and_then (meaning text known a scope) (signed (negation n))
  unfolding tree_views.roll-Tree denote.Hole.Carrier.roll
  means_not n a = ap (λ g. g scope) (fold-roll-Tree (Scope → Answer Meaning) (meaning_step text known) (Tree-F.Not n a))

  pub means_join : (o : Op) (a b : Tree) →
      meaning text known (tree.Join o a b) scope ≡ between (operator o) (meaning text known a scope) (meaning text known b scope)
  unfolding tree_views.roll-Tree denote.Hole.Carrier.roll
  means_join o a b = ap (λ g. g scope) (fold-roll-Tree (Scope → Answer Meaning) (meaning_step text known) (Tree-F.Join o a b))

  pub means_bind : (q : Quant) (n : ℕ) (x : Word) (a : TyTree) (b : Tree) →
      meaning text known (tree.Bind q n x a b) scope ≡ and_then (type_of_tree text known a) (λ c. and_then (meaning text known b (record { name = word_at text x; ty = c } ∷ scope)) (bound q n c))
  unfolding tree_views.roll-Tree denote.Hole.Carrier.roll
  means_bind q n x a b = ap (λ g. g scope) (fold-roll-Tree (Scope → Answer Meaning) (meaning_step text known) (Tree-F.Bind q n x a b))

-- ---- what a term is written as
pub part_bound : (i : ℕ) → part_of (roll-Term (Term-F.Bound i)) ≡ Whole_ (Variable i)
part_bound i = fold-roll-Term Part part_step (Term-F.Bound i)

pub part_con : (k : Konst) → part_of (constant k) ≡ constant_part k
part_con k = fold-roll-Term Part part_step (Term-F.Con k)

pub part_app : (f x : Term) → part_of (application f x) ≡ part_applied (part_of f) (part_of x)
part_app f x = fold-roll-Term Part part_step (Term-F.App f x)

pub part_lam : (a : Ty) (b : Term) → part_of (lambda a b) ≡ under a (part_of b)
part_lam a b = fold-roll-Term Part part_step (Term-F.Lam a b)

-- ---- how a type is written
pub base_lexemes : (types : List (List ℕ)) (i : ℕ) (s : TypeSort) → type_lexemes types (roll-Ty (Ty-F.Base i)) s ≡ base_lexeme types i ∷ []
base_lexemes types i s = ap (λ g. g s) (fold-roll-Ty (TypeSort → List Lexeme) (lexeme_step types) (Ty-F.Base i))

pub arrow_lexemes : (types : List (List ℕ)) (a b : Ty) (s : TypeSort) →
    type_lexemes types (function_ty a b) s ≡ bracketed_type s (type_lexemes types a Single ++ Arrow ∷ type_lexemes types b Whole)
arrow_lexemes types a b s = ap (λ g. g s) (fold-roll-Ty (TypeSort → List Lexeme) (lexeme_step types) (Ty-F.Arrow a b))
