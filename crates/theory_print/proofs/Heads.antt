-- The meaning of a head with an argument more.
use Rattle.std.proofs.Common.{◌≡◌, List, [], ◌∷◌, ◌++◌, map, refl, sym, ap, ◌∙◌}
use Rattle.std.specs.Prelude.{ℕ}
use Rattle.theory_syntax.specs.declared.tree.Tree.{Tree, roll-Tree, out-Tree}
use Rattle.theory_syntax.specs.declared.tree.Tree.TheOpen.{Tree-F}
use Rattle.theory_syntax.specs.declared.tree.Tree.TheViews.{roll-out-Tree}
use Rattle.theory_syntax.specs.declared.tree.Tree.TheFolds.{fold-roll-Tree}
use Rattle.theory_syntax.specs.declared.tree.Tree.TheVariants as tree
use Rattle.theory_syntax.specs.Grammar.{extend, extend_at}
use Rattle.theory_terms.specs.Answers.{Answer, and_then}
use Rattle.theory_terms.specs.Signature.{Declared}
use Rattle.theory_terms.specs.Meanings.{Meaning, Scope, meaning, meaning_step, applied, applied_all}
use Rattle.theory_print.proofs.Equations.{means_apply}

-- the last argument is put to what comes before it
last : (head : Answer Meaning) (xs : List (Scope → Answer Meaning)) (x : Scope → Answer Meaning) (scope : Scope) →
    applied_all head (xs ++ x ∷ []) scope ≡ and_then (applied_all head xs scope) (λ f. and_then (x scope) (applied f))
last head [] x scope = refl
last head (y ∷ ys) x scope = last (and_then head (λ f. and_then (y scope) (applied f))) ys x scope

map_last : {A B : Type 0} (f : A → B) (xs : List A) (x : A) → map f (xs ++ x ∷ []) ≡ map f xs ++ f x ∷ []
map_last f [] x = refl
map_last f (y ∷ ys) x = ap (λ zs. f y ∷ zs) (map_last f ys x)

module _ (text : List ℕ) (known : Declared) (scope : Scope) where
  -- the meaning of a head with an argument, from theirs
  abbrev pub put_on : Tree → Tree → Answer Meaning
  put_on f x = and_then (meaning text known f scope) (λ g. and_then (meaning text known x scope) (applied g))

  rolled_apply : (f : Tree) (xs : List Tree) → meaning text known (roll-Tree (Tree-F.Apply f xs)) scope ≡ applied_all (meaning text known f scope) (map (meaning text known) xs) scope
  rolled_apply f xs = ap (λ g. g scope) (fold-roll-Tree (Scope → Answer Meaning) (meaning_step text known) (Tree-F.Apply f xs))

  more_args : (f : Tree) (xs : List Tree) (t x : Tree) → roll-Tree (Tree-F.Apply f xs) ≡ t → meaning text known (tree.Apply f (xs ++ x ∷ [])) scope ≡ put_on t x
  more_args f xs t x e =
      means_apply text known scope f (xs ++ x ∷ [])
      ∙ ap (λ ys. applied_all (meaning text known f scope) ys scope) (map_last (meaning text known) xs x)
      ∙ last (meaning text known f scope) (map (meaning text known) xs) (meaning text known x) scope
      ∙ ap (λ z. and_then z (λ g. and_then (meaning text known x scope) (applied g))) (sym (rolled_apply f xs) ∙ ap (λ t. meaning text known t scope) e)

  first_arg : (t x : Tree) → meaning text known (tree.Apply t (x ∷ [])) scope ≡ put_on t x
  first_arg t x = means_apply text known scope t (x ∷ [])

  by_view : (y : Tree-F Tree) (t x : Tree) → roll-Tree y ≡ t → meaning text known (extend_at y t x) scope ≡ put_on t x
  by_view (Tree-F.Apply f xs) t x e = more_args f xs t x e
  by_view _ t x e = first_arg t x

  pub extend_means : (f x : Tree) → meaning text known (extend f x) scope ≡ put_on f x
  extend_means f x = by_view (out-Tree f) f x (roll-out-Tree f)
