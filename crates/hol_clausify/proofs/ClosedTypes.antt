-- The types of closed terms over variables, and of their applications to these.
use Rattle.std.proofs.Common.{◌≡◌, List, [], ◌∷◌, ◌∙◌, Some}
use Rattle.hol_terms.specs.declared.ty.Ty.{Ty}
use Rattle.hol_terms.specs.declared.sig.Sig.{Sig}
use Rattle.hol_terms.specs.declared.term.Term.{Term}
use Rattle.hol_terms.specs.Typing.{type_in, applied}
use Rattle.hol_terms.specs.Substitution.{abstracted}
use Rattle.hol_terms.proofs.Abstracts.{type_abstracted, checked_fits}
use Rattle.hol_terms.proofs.TypedParts.{applied_fits, under_so}
use Rattle.hol_terms.proofs.Equations.{type-free, type-app, type-lam}
use Rattle.kernel_rules.specs.Connectives.{apply}
use Rattle.formula_clauses.specs.Choices.{Variable, closed_over, closed_ty, applied_to}
use Rattle.hol_clausify.specs.Laws.{AllFit, ClosedOverTyped}
use Rattle.hol_clausify.proofs.Opening.{free}

module _ (sig : Sig) where
  closed_typed : (vs : List Variable) (t : Term) (a : Ty) → AllFit sig.types vs → type_in sig t [] ≡ Some a → type_in sig (closed_over vs t) [] ≡ Some (closed_ty vs a)
  closed_typed [] t a fits h = h
  closed_typed (v ∷ vs) t a fits h =
      let inner = closed_over vs t in
      let body = type_abstracted sig v.0 v.1 fits.0 inner [] [] ∙ closed_typed vs t a fits.1 h in
      type-lam sig v.1 (abstracted v.0 v.1 inner) [] ∙ under_so sig.types v.1 (type_in sig (abstracted v.0 v.1 inner) (v.1 ∷ [])) (closed_ty vs a) body fits.0

  pub applied_typed : (vs : List Variable) (f : Term) (a : Ty) → AllFit sig.types vs → type_in sig f [] ≡ Some (closed_ty vs a) → type_in sig (applied_to f vs) [] ≡ Some a
  applied_typed [] f a fits h = h
  applied_typed (v ∷ vs) f a fits h =
      let x = free v.0 v.1 in
      applied_typed vs (apply f x) a fits.1
      (type-app sig f x [] ∙ (λ i. applied (h i) ((type-free sig v.0 v.1 [] ∙ checked_fits sig.types v.1 fits.0) i)) ∙ applied_fits v.1 (closed_ty vs a))

  pub closed_over_typed : (vs : List Variable) (t : Term) (a : Ty) → ClosedOverTyped sig vs t a
  closed_over_typed vs t a fits h = let closed = closed_typed vs t a fits h in (closed, applied_typed vs (closed_over vs t) a fits closed)
