-- Parts of formulas are formulas, and so is what is said of a value.
use Rattle.std.proofs.Common.{◌≡◌, Bool, true, false, IsTrue, [], ap, subst, refl, sym, ◌∙◌, Some}
use Rattle.hol_terms.specs.declared.ty.Ty.{Ty}
use Rattle.hol_terms.specs.declared.sig.Sig.{Sig}
use Rattle.hol_terms.specs.declared.konst.Konst.TheVariants as konst
use Rattle.hol_terms.specs.declared.term.Term.{Term}
use Rattle.hol_terms.specs.Types.{bool_ty, function_ty, ty_fits}
use Rattle.hol_terms.specs.Typing.{type_of_term}
use Rattle.hol_terms.specs.Formulas.{IsFormula, aux_free}
use Rattle.hol_terms.specs.Substitution.{instantiated}
use Rattle.hol_terms.proofs.Equations.{type-con}
use Rattle.hol_terms.proofs.TypedParts.{function_parts}
use Rattle.hol_terms.proofs.Formulas.{formula_typed, formula_aux_free, formula_from}
use Rattle.kernel_rules.specs.Connectives.{apply, constant, lambda, neg, conj, disj, imp, equal}
use Rattle.kernel_rules.proofs.GivenTerms.{given_typed, given_aux_free}
use Rattle.kernel_rules.proofs.TypedTerms.{apply_parts, apply_parts_aux_free, binary_sides, equal_sides, equal_aux_free, all_property, some_property, applied_formula, neg_formula}
use Rattle.hol_kernel.specs.Conditions.{IsGiven}
use Rattle.hol_derived.proofs.ContextLaws.{applied_lambda}
use Rattle.hol_formulas.specs.declared.formula.Junction.{Junction}
use Rattle.hol_formulas.specs.declared.formula.Junction.TheVariants as junctions
use Rattle.hol_formulas.specs.declared.formula.Quantifier.{Quantifier}
use Rattle.hol_formulas.specs.declared.formula.Quantifier.TheVariants as quantifiers
use Rattle.hol_clausify.specs.Places.{junction, quantifier}
use Rattle.hol_clausify.specs.inner.Refuting.{placed}

some_same : {X : Type 0} (x y : X) → Some x ≡ Some y → x ≡ y
some_same x y h = cc

module _ (sig : Sig) where
  pub denied_formula : (t : Term) → IsFormula sig (neg t) → IsFormula sig t
  denied_formula t h =
      let k = constant konst.Not in
      let parts = apply_parts sig k t bool_ty (formula_typed sig (neg t) h) in
      let same = some_same _ _ (sym (type-con sig konst.Not []) ∙ parts.1.0) in
      let own = function_parts bool_ty bool_ty parts.0 bool_ty same in
      formula_from sig t (parts.1.1 ∙ ap (λ z. Some z) (sym own.0)) (apply_parts_aux_free sig k t (formula_aux_free sig (neg t) h)).1

  pub sides_formulas : (j : Junction) (a b : Term) → IsFormula sig (junction j a b) → IsFormula sig a × IsFormula sig b
  sides_formulas junctions.And a b h = binary_sides sig konst.And a b refl h
  sides_formulas junctions.Or a b h = binary_sides sig konst.Or a b refl h
  sides_formulas junctions.Imp a b h = binary_sides sig konst.Imp a b refl h
  sides_formulas junctions.Iff a b h =
      let typed = equal_sides sig bool_ty a b h in
      let free = equal_aux_free sig bool_ty a b h in
      (formula_from sig a typed.1.0 free.0, formula_from sig b typed.1.1 free.1)

  pub property_of_quantifier : (q : Quantifier) (a : Ty) (f : Term) → IsFormula sig (quantifier q a f) → IsTrue (ty_fits sig.types a) × ((type_of_term sig f ≡ Some (function_ty a bool_ty)) × IsTrue (aux_free f))
  property_of_quantifier quantifiers.All a f h = all_property sig a f h
  property_of_quantifier quantifiers.Ex a f h = some_property sig a f h

  pub instance_formula : (q : Quantifier) (a : Ty) (b v : Term) → IsFormula sig (quantifier q a (lambda a b)) → IsGiven sig v a → IsFormula sig (instantiated b v)
  instance_formula q a b v h g =
      let own = property_of_quantifier q a (lambda a b) h in
      subst (IsFormula sig) (applied_lambda a b v) (applied_formula sig (lambda a b) v a own.1.0 (given_typed sig v a g) own.1.1 (given_aux_free sig v a g))

  pub placed_formula : (s : Bool) (t : Term) → IsFormula sig t → IsFormula sig (placed s t)
  placed_formula true t h = h
  placed_formula false t h = neg_formula sig t h
