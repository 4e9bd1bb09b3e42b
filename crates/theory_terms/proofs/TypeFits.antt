-- A type that is read has base types of the signature alone.
use Rattle.std.proofs.Common.{◌≡◌, ℕ, ◌+◌, ◌<◌, Bool, true, IsTrue, nat_lt, List, [], length, refl, sym, ap, subst, ◌∙◌, arith, Some, None}
use Rattle.std.specs.Prelude.{Option}
use Rattle.std.specs.Str.{bytes_eq}
use Rattle.std.proofs.lemmas.Bool.Decides.{nat_tests}
use Rattle.std.proofs.lemmas.List.Quantifiers.{position-Some}
use Rattle.hol_terms.specs.declared.ty.Ty.{Ty, roll-Ty}
use Rattle.hol_terms.specs.declared.ty.Ty.TheOpen.{Ty-F}
use Rattle.hol_terms.specs.Types.{ty_fits, bool_ty, function_ty}
use Rattle.hol_terms.proofs.Equations.{ty_fits-base, ty_fits-arrow}
use Rattle.hol_terms.proofs.Both.{and_true}
use Rattle.theory_syntax.specs.declared.tokens.Word.{Word}
use Rattle.theory_syntax.specs.declared.tree.TyTree.{TyTree, roll-TyTree}
use Rattle.theory_syntax.specs.declared.tree.TyTree.TheOpen.{TyTree-F}
use Rattle.theory_syntax.specs.declared.tree.TyTree.TheFolds.{fold-roll-TyTree, map-TyTree}
use Rattle.theory_terms.specs.Answers.{Answer, Good, and_then}
use Rattle.theory_terms.specs.Words.{word_at, place}
use Rattle.theory_terms.specs.Signature.{Declared}
use Rattle.theory_terms.specs.Types.{named_type, type_step, type_of_tree}
use Rattle.theory_terms.proofs.Openings.{opened, good_same}
use Rattle.theory_terms.proofs.TreeCases.{type_cases}

module _ (text : List ℕ) (known : Declared) where
  -- the type of a tree, by its constructor
  pub type_at : (x : TyTree-F TyTree) → type_of_tree text known (roll-TyTree x) ≡ type_step text known (map-TyTree TyTree (Answer Ty) (type_of_tree text known) x)
  type_at x = fold-roll-TyTree (Answer Ty) (type_step text known) x

  abbrev Fits : TyTree → Type 0
  Fits tree = (a : Ty) → type_of_tree text known tree ≡ Good a → IsTrue (ty_fits (1 + length known.types) a)

  bool : Fits (roll-TyTree TyTree-F.Bool)
  bool a h =
      let same : bool_ty ≡ a = good_same bool_ty a (sym (type_at TyTree-F.Bool) ∙ h) in
      subst (λ z. IsTrue (ty_fits (1 + length known.types) z)) same (ty_fits-base (1 + length known.types) 0 ∙ grind (arith, nat_tests))

  named_fits : (name : List ℕ) (at : ℕ) (o : Option ℕ) (a : Ty) → place name known.types ≡ o → named_type at o ≡ Good a → IsTrue (ty_fits (1 + length known.types) a)
  named_fits name at None a e h = cc
  named_fits name at (Some i) a e h =
      let within : i < length known.types = (position-Some (bytes_eq name) known.types i [] e).0 in
      let same : roll-Ty (Ty-F.Base (i + 1)) ≡ a = good_same (roll-Ty (Ty-F.Base (i + 1))) a h in
      subst (λ z. IsTrue (ty_fits (1 + length known.types) z)) same (ty_fits-base (1 + length known.types) (i + 1) ∙ grind (arith, nat_tests))

  named : (w : Word) → Fits (roll-TyTree (TyTree-F.Named w))
  named w a h = named_fits (word_at text w) w.start (place (word_at text w) known.types) a refl (sym (type_at (TyTree-F.Named w)) ∙ h)

  arrow : (s t : TyTree) → Fits s → Fits t → Fits (roll-TyTree (TyTree-F.Arrow s t))
  arrow s t hs ht a h =
      let left = opened (type_of_tree text known s) _ a (sym (type_at (TyTree-F.Arrow s t)) ∙ h) in
      let right = opened (type_of_tree text known t) _ a left.1.1 in
      let same : function_ty left.0 right.0 ≡ a = good_same (function_ty left.0 right.0) a right.1.1 in
      subst (λ z. IsTrue (ty_fits (1 + length known.types) z)) same
      (ty_fits-arrow (1 + length known.types) left.0 right.0 ∙
      and_true (ty_fits (1 + length known.types) left.0) (ty_fits (1 + length known.types) right.0) (hs left.0 left.1.0) (ht right.0 right.1.0))

  pub type_fits : (tree : TyTree) → Fits tree
  type_fits = type_cases Fits bool named arrow
