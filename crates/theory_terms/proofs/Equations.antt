-- One equation for each definition at each constructor.
use Rattle.std.proofs.Common.{◌≡◌, ℕ, ◌+◌, Bool, List, ◌∷◌, map, sym, ap, ◌∙◌}
use Rattle.std.specs.Prelude.{max}
use Rattle.hol_terms.specs.declared.ty.Ty.{Ty}
use Rattle.hol_terms.specs.Types.{bool_ty}
use Rattle.theory_syntax.specs.declared.tree.Tree.{Tree}
use Rattle.theory_syntax.specs.declared.tree.Tree.TheOpen.{Tree-F}
use Rattle.theory_syntax.specs.declared.tree.Tree.TheFolds.{fold-roll-Tree}
use Rattle.theory_syntax.specs.declared.tree.Tree.TheVariants as tree
use Rattle.theory_syntax.specs.declared.tree.Tree.TheVariants.{rolls-Apply, rolls-Truth}
use Rattle.theory_terms.specs.declared.decl.Decl.{Decl}
use Rattle.theory_terms.specs.Answers.{Answer, Good}
use Rattle.theory_terms.specs.Signature.{Declared}
use Rattle.theory_terms.specs.Meanings.{Meaning, meaning, meaning_step, applied_all, sign, truth}

module _ (text : List ℕ) (known : Declared) where
  pub meaning_apply : (f : Tree) (xs : List Tree) (scope : List Decl) → meaning text known (tree.Apply f xs) scope ≡ applied_all (meaning text known f scope) (map (meaning text known) xs) scope
  meaning_apply f xs scope =
      ap (λ t. meaning text known t scope) (sym (rolls-Apply f xs)) ∙
      ap (λ g. g scope) (fold-roll-Tree (List Decl → Answer Meaning) (meaning_step text known) (Tree-F.Apply f xs))

  pub meaning_truth : (b : Bool) (at : ℕ) (scope : List Decl) → meaning text known (tree.Truth b at) scope ≡ Good (sign at (truth b) bool_ty)
  meaning_truth b at scope =
      ap (λ t. meaning text known t scope) (sym (rolls-Truth b at)) ∙
      ap (λ g. g scope) (fold-roll-Tree (List Decl → Answer Meaning) (meaning_step text known) (Tree-F.Truth b at))
