-- Quantified formulas that are refuted from a part for a value.
use Rattle.std.proofs.Common.{◌≡◌, ℕ, IsTrue, ap, subst, sym, ◌∙◌}
use Rattle.std.specs.Prelude.{Result, IfOk}
use Rattle.std.specs.FinSet as set
use Rattle.hol_terms.specs.declared.ty.Ty.{Ty}
use Rattle.hol_terms.specs.declared.sig.Sig.{Sig}
use Rattle.hol_terms.specs.declared.konst.Konst.TheVariants as konst
use Rattle.hol_terms.specs.declared.term.Term.{Term}
use Rattle.hol_terms.specs.Types.{bool_ty, function_ty}
use Rattle.hol_terms.specs.Typing.{type_of_term}
use Rattle.hol_terms.specs.Formulas.{IsFormula}
use Rattle.hol_terms.specs.Substitution.{instantiated}
use Rattle.hyp_sets.specs.Sets.{only}
use Rattle.kernel_rules.specs.declared.step.ThmId.{ThmId}
use Rattle.kernel_rules.specs.Connectives.{apply, constant, lambda, falsum, neg, all, some, chosen, equal, applied_to, right_of}
use Rattle.kernel_rules.specs.Rules.{seq}
use Rattle.kernel_rules.proofs.Parts.{right_of-apply}
use Rattle.kernel_rules.proofs.GivenTerms.{given_typed, given_aux_free}
use Rattle.hol_kernel.specs.Logs.{Logged, thm}
use Rattle.hol_kernel.specs.Growth.{Gives}
use Rattle.hol_kernel.specs.Conditions.{own_ty, IsGiven, IsProperty}
use Rattle.hol_derived.proofs.ContextLaws.{applied_lambda}
use Rattle.hol_derived.proofs.Expansions.{own_is, own_given}
use Rattle.hol_refutations.proofs.Steps.{some_gives_property}
use Rattle.hol_formulas.specs.declared.formula.Quantifier.TheVariants as quantifiers
use Rattle.hol_clausify.specs.declared.part.Instance.{Instance}
use Rattle.hol_clausify.specs.inner.Parts.{IsInstance, IsNamed}
use Rattle.hol_clausify.specs.inner.Refuting.{Lands}
use Rattle.hol_clausify.proofs.Formed.{instance_formula}
use Rattle.hol_clausify.proofs.Landings.{lands_one}

module _ (x : Instance) (h : IsInstance x) where
  abbrev ty : Ty
  ty = x.ty.now

  abbrev f : Term
  f = x.property.now

  abbrev b : Term
  b = x.body.now

  abbrev v : Term
  v = x.value.now

  applied_is : applied_to f v ≡ instantiated b v
  applied_is = ap (λ z. applied_to z v) h.property ∙ applied_lambda ty b v

  pub part_applied : x.part.now ≡ applied_to f v
  part_applied = h.part ∙ sym applied_is

  module _ {E : Type 0} (old new : Logged) (th : ℕ) (result : Result ThmId E) where
    pub all_lands : IfOk result (λ r. Gives new r.0 (seq (set.union (only (all ty f)) (set.remove (thm old th).hyps (applied_to f v))) falsum)) → IfOk result (λ r. Lands old new (instantiated b v) th (only (all ty (lambda ty b))) r.0)
    all_lands g =
        lands_one old new th result (instantiated b v) (all ty (lambda ty b))
        (subst (λ (q : Term). IfOk result (λ r. Gives new r.0 (seq (set.union (only (all ty q)) (set.remove (thm old th).hyps (instantiated b v))) falsum))) h.property
        (subst (λ (p : Term). IfOk result (λ r. Gives new r.0 (seq (set.union (only (all ty f)) (set.remove (thm old th).hyps p)) falsum))) applied_is g))

    pub not_some_lands : own_ty old.env.sig v ≡ ty → IfOk result (λ r. Gives new r.0 (seq (set.union (only (neg (some (own_ty old.env.sig v) f))) (set.remove (thm old th).hyps (neg x.part.now))) falsum)) →
        IfOk result (λ r. Lands old new (neg (instantiated b v)) th (only (neg (some ty (lambda ty b)))) r.0)
    not_some_lands own g =
        lands_one old new th result (neg (instantiated b v)) (neg (some ty (lambda ty b)))
        (subst (λ (q : Term). IfOk result (λ r. Gives new r.0 (seq (set.union (only (neg (some ty q))) (set.remove (thm old th).hyps (neg (instantiated b v)))) falsum))) h.property
        (subst (λ (a : Ty). IfOk result (λ r. Gives new r.0 (seq (set.union (only (neg (some a f))) (set.remove (thm old th).hyps (neg (instantiated b v)))) falsum))) own
        (subst (λ (p : Term). IfOk result (λ r. Gives new r.0 (seq (set.union (only (neg (some (own_ty old.env.sig v) f))) (set.remove (thm old th).hyps (neg p))) falsum))) h.part g)))

  module _ (old : Logged) (name : ThmId) (g : Term) (named : IsNamed old name x g) where
    pub value_named : right_of (thm old name.0).concl ≡ v
    value_named = ap (λ q. right_of q.concl) named.is ∙ right_of-apply (apply (constant (konst.Eq ty)) (chosen ty g)) v

    pub names : (k : Term) → k ≡ g → thm old name.0 ≡ seq set.empty (equal ty (chosen ty k) (right_of (thm old name.0).concl))
    names k same = named.is ∙ (λ i. seq set.empty (equal ty (chosen ty (sym same i)) (sym value_named i)))

    module _ {E : Type 0} (new : Logged) (th : ℕ) (result : Result ThmId E) where
      pub some_lands : IfOk result (λ r. Gives new r.0 (seq (set.union (only (some ty f)) (set.remove (thm old th).hyps (applied_to f (right_of (thm old name.0).concl)))) falsum)) →
          IfOk result (λ r. Lands old new (instantiated b v) th (only (some ty (lambda ty b))) r.0)
      some_lands h2 =
          lands_one old new th result (instantiated b v) (some ty (lambda ty b))
          (subst (λ (q : Term). IfOk result (λ r. Gives new r.0 (seq (set.union (only (some ty q)) (set.remove (thm old th).hyps (instantiated b v))) falsum))) h.property
          (subst (λ (p : Term). IfOk result (λ r. Gives new r.0 (seq (set.union (only (some ty f)) (set.remove (thm old th).hyps p)) falsum))) (ap (applied_to f) value_named ∙ applied_is) h2))

      pub not_all_lands : IfOk result (λ r. Gives new r.0 (seq (set.union (only (neg (all ty (lambda ty b)))) (set.remove (thm old th).hyps (neg (instantiated b (right_of (thm old name.0).concl))))) falsum)) →
          IfOk result (λ r. Lands old new (neg (instantiated b v)) th (only (neg (all ty (lambda ty b)))) r.0)
      not_all_lands h2 =
          lands_one old new th result (neg (instantiated b v)) (neg (all ty (lambda ty b)))
          (subst (λ (u : Term). IfOk result (λ r. Gives new r.0 (seq (set.union (only (neg (all ty (lambda ty b)))) (set.remove (thm old th).hyps (neg (instantiated b u)))) falsum))) value_named h2)

  module _ (sig : Sig) (whole : IsFormula sig (some ty (lambda ty b))) (given : IsGiven sig v ty) where
    pub own_type : own_ty sig v ≡ ty
    own_type = own_is sig v ty (given_typed sig v ty given)

    pub value_given : IsGiven sig v (own_ty sig v)
    value_given = own_given sig v ty (given_typed sig v ty given) (given_aux_free sig v ty given)

    pub property_given : IsProperty sig f (own_ty sig v)
    property_given =
        subst (λ (z : Term). IsProperty sig z (own_ty sig v)) (sym h.property) (subst (IsProperty sig (lambda ty b)) (sym own_type) (some_gives_property sig ty (lambda ty b) whole))

    pub part_formula : IsFormula sig x.part.now
    part_formula = subst (IsFormula sig) (sym h.part) (instance_formula sig quantifiers.Ex ty b v whole given)
