-- The lambda over the hole is a context.
use Rattle.std.proofs.Common.{◌≡◌, ℕ, IsTrue, if◌then◌else◌, sym, ◌∙◌, ap, subst, List, [], ◌∷◌, Some, Ok, Err}
use Rattle.std.specs.Prelude.{Result, IfOk}
use Rattle.hol_terms.specs.declared.ty.Ty.{Ty}
use Rattle.hol_terms.specs.declared.sig.Sig.{Sig}
use Rattle.hol_terms.specs.declared.term.Term.{Term}
use Rattle.hol_terms.specs.Types.{bool_ty, function_ty, ty_fits}
use Rattle.hol_terms.specs.Typing.{type_in, type_of_term}
use Rattle.hol_terms.specs.Substitution.{put, instantiated}
use Rattle.hol_terms.specs.Formulas.{IsFormula, typed_as, aux_free}
use Rattle.hol_terms.proofs.Both.{and_true}
use Rattle.hol_terms.proofs.Closed.{typed_closed}
use Rattle.hol_terms.proofs.Equations.{type-lam, aux_free-lam}
use Rattle.hol_terms.proofs.Formulas.{formula_typed, formula_aux_free, formula_closed, is_typed_as}
use Rattle.hol_terms.proofs.TypedParts.{under_so}
use Rattle.kernel_rules.specs.Connectives.{apply, lambda, applied_to, body_of, is_lambda, is_equal, head_ty, left_of, right_of}
use Rattle.kernel_rules.specs.Rules.{is_given}
use Rattle.kernel_rules.proofs.Parts.{is_lambda-lambda, body_of-lambda, equal_is}
use Rattle.kernel_rules.proofs.TypedTerms.{equal_sides}
use Rattle.hol_derived.specs.Paths.{part_at, replaced_at}
use Rattle.hol_derived.specs.inner.Contexts.{IsContext}
use Rattle.hol_derived.proofs.Holes.{gap, whole_again, hole_filled, hole_typed, hole_aux_free}

pub applied_lambda : (a : Ty) (b u : Term) → applied_to (lambda a b) u ≡ put u b 0
unfolding applied_to
applied_lambda a b u = ap (λ z. if z then instantiated (body_of (lambda a b)) u else apply (lambda a b) u) (is_lambda-lambda a b) ∙ ap (λ z. instantiated z u) (body_of-lambda a b)

pub given_from : (sig : Sig) (t : Term) (a : Ty) → type_of_term sig t ≡ Some a → IsTrue (aux_free t) → IsTrue (is_given sig t a)
unfolding is_given
given_from sig t a typed free = and_true (typed_as sig t a) (aux_free t) (is_typed_as sig t a typed) free

module _ (sig : Sig) (e c : Term) (path : List ℕ) (is : IsTrue (is_equal e)) (fe : IsFormula sig e) (fc : IsFormula sig c) (part : part_at path c ≡ Some (left_of e)) where
  sides : IsTrue (ty_fits sig.types (head_ty e)) × ((type_of_term sig (left_of e) ≡ Some (head_ty e)) × (type_of_term sig (right_of e) ≡ Some (head_ty e)))
  sides = equal_sides sig (head_ty e) (left_of e) (right_of e) (subst (IsFormula sig) (equal_is e is) fe)

  context_typed : type_of_term sig (lambda (head_ty e) (replaced_at path gap c)) ≡ Some (function_ty (head_ty e) bool_ty)
  context_typed =
      type-lam sig (head_ty e) (replaced_at path gap c) []
      ∙ under_so sig.types (head_ty e) (type_in sig (replaced_at path gap c) (head_ty e ∷ [])) bool_ty (hole_typed sig (head_ty e) path c (left_of e) sides.1.0 part (formula_closed sig c fc) ∙ formula_typed sig c fc) sides.0

  context_aux_free : IsTrue (aux_free (lambda (head_ty e) (replaced_at path gap c)))
  context_aux_free = aux_free-lam (head_ty e) (replaced_at path gap c) ∙ hole_aux_free path c (left_of e) part (formula_aux_free sig c fc)

  filled : (u : Term) → type_of_term sig u ≡ Some (head_ty e) → applied_to (lambda (head_ty e) (replaced_at path gap c)) u ≡ replaced_at path u c
  filled u typed = applied_lambda (head_ty e) (replaced_at path gap c) u ∙ hole_filled path c (left_of e) u part (formula_closed sig c fc) (typed_closed sig u [] (head_ty e) typed)

  pub context_is : (f : Term) → f ≡ lambda (head_ty e) (replaced_at path gap c) → IsContext sig e c path f
  context_is f is_lambda = subst (IsContext sig e c path) (sym is_lambda)
      (record {
        property = given_from sig (lambda (head_ty e) (replaced_at path gap c)) (function_ty (head_ty e) bool_ty) context_typed context_aux_free;
        before = sym (filled (left_of e) sides.1.0 ∙ whole_again path c (left_of e) part);
        after = filled (right_of e) sides.1.1;
      })

  pub context_made : {E : Type 0} (r : Result Term E) (own : Ty) (body : Term) → own ≡ head_ty e → body ≡ replaced_at path gap c → IfOk r (λ f. f ≡ lambda own body) → IfOk r (IsContext sig e c path)
  context_made (Ok f) own body own_is body_is h = context_is f (h ∙ (λ i. lambda (own_is i) (body_is i)))
  context_made (Err x) own body own_is body_is h = tt
