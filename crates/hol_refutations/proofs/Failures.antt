-- A universal formula that fails, and a value at which it does.
use Rattle.std.proofs.Common.{◌≡◌, ℕ, Bool, false, not, ◌||◌, IsTrue, sym, ◌∙◌, ap, subst, [], ◌∷◌, Some, inl, inr}
use Rattle.std.specs.FinSet as set
use Rattle.hol_terms.specs.declared.ty.Ty.{Ty}
use Rattle.hol_terms.specs.declared.sig.Sig.{Sig}
use Rattle.hol_terms.specs.declared.konst.Konst.TheVariants as konst
use Rattle.hol_terms.specs.declared.term.Term.{Term, Free}
use Rattle.hol_terms.specs.declared.term.Term.TheOpen.{Term-F}
use Rattle.hol_terms.specs.declared.term.Term.TheViews.{out-roll-Term}
use Rattle.hol_terms.specs.Types.{bool_ty, function_ty, ty_fits}
use Rattle.hol_terms.specs.Typing.{type_in, type_of_term, applied}
use Rattle.hol_terms.specs.Substitution.{put, occurs, instantiated}
use Rattle.hol_terms.specs.Formulas.{IsFormula, aux_free}
use Rattle.hol_terms.proofs.Equations.{type-app, type-con, type-lam, type-free, aux_free-app, aux_free-con, aux_free-lam, aux_free-free, put-con, put-app, occurs-app, occurs-con, occurs-lam}
use Rattle.hol_terms.proofs.Both.{and_true}
use Rattle.hol_terms.proofs.TypedParts.{applied_fits, function_parts, checked_so, under_parts, under_so}
use Rattle.hyp_sets.specs.Sets.{TermSet, only, absent, absent_in, Holds, Among}
use Rattle.hyp_sets.proofs.Members.{clash, same_members, holds_union, in_left, holds_remove, in_remove, holds_only, each_all_in}
use Rattle.kernel_rules.specs.Connectives.{constant, apply, lambda, lambda_over, neg, all, some, applied_to, is_all, right_of, is_every, one_at, constant_at}
use Rattle.kernel_rules.proofs.Parts.{right_of-apply, is_all-all}
use Rattle.kernel_rules.proofs.TypedTerms.{all_property, some_formula, neg_formula, applied_formula}
use Rattle.hol_kernel.specs.Conditions.{own_ty, IsGiven, IsProperty}
use Rattle.hol_derived.proofs.ContextLaws.{applied_lambda, given_from}
use Rattle.hol_derived.proofs.Expansions.{own_is, own_given, variable_is}
use Rattle.hol_derived.proofs.Fresh.{abstracted_put}

put_neg : (u b : Term) → put u (neg b) 0 ≡ neg (put u b 0)
put_neg u b = put-app u (constant konst.Not) b 0 ∙ ap (λ h. apply h (put u b 0)) (put-con u konst.Not 0)

pub denied_at : (a : Ty) (b u : Term) → applied_to (lambda a (neg b)) u ≡ neg (instantiated b u)
denied_at a b u = applied_lambda a (neg b) u ∙ put_neg u b

pub closed_again : (n : ℕ) (a : Ty) (b : Term) → occurs n a b ≡ false → all a (lambda_over n a (instantiated b (Free n a))) ≡ all a (lambda a b)
closed_again n a b fresh = ap (λ v. all a (lambda_over n a (instantiated b v))) (variable_is n a) ∙ ap (λ t. all a (lambda a t)) (abstracted_put n a b 0 fresh)

module _ (sig : Sig) (a : Ty) (b : Term) (whole : IsFormula sig (all a (lambda a b))) where
  own : IsTrue (ty_fits sig.types a) × ((type_of_term sig (lambda a b) ≡ Some (function_ty a bool_ty)) × IsTrue (aux_free (lambda a b)))
  own = all_property sig a (lambda a b) whole

  pub bound_fits : IsTrue (ty_fits sig.types a)
  bound_fits = own.0

  body_typed : type_in sig b (a ∷ []) ≡ Some bool_ty
  body_typed =
      let parts = under_parts sig.types a (type_in sig b (a ∷ [])) (function_ty a bool_ty) (sym (type-lam sig a b []) ∙ own.1.0) in
      let same = function_parts a bool_ty a parts.0 parts.1.1.0 in
      parts.1.0 ∙ ap (λ z. Some z) (sym same.1)

  denial_typed : type_in sig (neg b) (a ∷ []) ≡ Some bool_ty
  denial_typed = type-app sig (constant konst.Not) b (a ∷ []) ∙ (λ i. applied (type-con sig konst.Not (a ∷ []) i) (body_typed i)) ∙ applied_fits bool_ty bool_ty

  failure_typed : type_of_term sig (lambda a (neg b)) ≡ Some (function_ty a bool_ty)
  failure_typed = type-lam sig a (neg b) [] ∙ under_so sig.types a (type_in sig (neg b) (a ∷ [])) bool_ty denial_typed bound_fits

  failure_aux_free : IsTrue (aux_free (lambda a (neg b)))
  failure_aux_free =
      aux_free-lam a (neg b) ∙ aux_free-app (constant konst.Not) b
      ∙ and_true (aux_free (constant konst.Not)) (aux_free b) (aux_free-con konst.Not) (sym (aux_free-lam a b) ∙ own.1.1)

  pub failure_formula : IsFormula sig (some a (lambda a (neg b)))
  failure_formula = some_formula sig a (lambda a (neg b)) bound_fits failure_typed failure_aux_free

  module _ (n : ℕ) where
    variable_typed : type_of_term sig (Free n a) ≡ Some a
    variable_typed = ap (type_of_term sig) (variable_is n a) ∙ type-free sig n a [] ∙ checked_so sig.types a a bound_fits

    variable_aux_free : IsTrue (aux_free (Free n a))
    variable_aux_free = ap aux_free (variable_is n a) ∙ aux_free-free n a

    pub variable_own : own_ty sig (Free n a) ≡ a
    variable_own = own_is sig (Free n a) a variable_typed

    pub variable_given : IsGiven sig (Free n a) (own_ty sig (Free n a))
    variable_given = own_given sig (Free n a) a variable_typed variable_aux_free

    pub failure_property : IsProperty sig (lambda a (neg b)) (own_ty sig (Free n a))
    failure_property = subst (IsProperty sig (lambda a (neg b))) (sym variable_own) (given_from sig (lambda a (neg b)) (function_ty a bool_ty) failure_typed failure_aux_free)

    pub part_formula : IsFormula sig (instantiated b (Free n a))
    part_formula = subst (IsFormula sig) (applied_lambda a b (Free n a)) (applied_formula sig (lambda a b) (Free n a) a own.1.0 variable_typed own.1.1 variable_aux_free)

    pub denial_formula : IsFormula sig (neg (instantiated b (Free n a)))
    denial_formula = neg_formula sig (instantiated b (Free n a)) part_formula

-- ---- the variable is in no hypothesis that is left
module _ (n : ℕ) (a : Ty) (b c : Term) (fresh : occurs n a b ≡ false) where
  or_false : (p q : Bool) → p ≡ false → q ≡ false → (p || q) ≡ false
  or_false p q h k = (λ i. h i || k i)

  one_lacks : (k : Term) (x : Term) → occurs n a k ≡ false → occurs n a x ≡ false → occurs n a (apply k x) ≡ false
  one_lacks k x h g = occurs-app n a k x ∙ or_false (occurs n a k) (occurs n a x) h g

  failure_lacks : occurs n a (neg (some a (lambda a (neg b)))) ≡ false
  failure_lacks =
      one_lacks (constant konst.Not) (some a (lambda a (neg b))) (occurs-con n a konst.Not)
      (one_lacks (constant (konst.Ex a)) (lambda a (neg b)) (occurs-con n a (konst.Ex a)) (occurs-lam n a a (neg b) ∙ one_lacks (constant konst.Not) b (occurs-con n a konst.Not) fresh))

  abbrev left : TermSet
  left = set.remove (set.union (only (neg (some a (lambda a (neg b))))) (only c)) c

  each_lacks : (x : Term) → Holds left x → IsTrue (absent_in n a x)
  each_lacks x h =
      let out = holds_remove (set.union (only (neg (some a (lambda a (neg b))))) (only c)) c x h in
      elim (holds_union (only (neg (some a (lambda a (neg b))))) (only c) x out.1)
      [ inl m ↦ ap (λ z. not (occurs n a z)) (holds_only (neg (some a (lambda a (neg b)))) x m) ∙ ap not failure_lacks | inr m ↦ absurd (out.0 (holds_only c x m)) ]

  pub left_lacks : IsTrue (absent n a left)
  left_lacks = each_all_in (absent_in n a) left each_lacks

-- ---- what is left at the end
not_all : (a : Ty) (g : Term) → is_all (some a g) ≡ false
unfolding is_all
not_all a g = ap (one_at is_every) (out-roll-Term (Term-F.App (constant (konst.Ex a)) g)) ∙ ap (constant_at is_every) (out-roll-Term (Term-F.Con (konst.Ex a)))

unlike : (a : Ty) (f g : Term) → neg (all a f) ≡ neg (some a g) → ⊥
unlike a f g e =
    let same : all a f ≡ some a g = sym (right_of-apply (constant konst.Not) (all a f)) ∙ ap right_of e ∙ right_of-apply (constant konst.Not) (some a g) in
    clash (is_all (some a g)) (ap is_all (sym same) ∙ is_all-all a f) (not_all a g)

module _ (p q r : Term) (differs : p ≡ q → ⊥) where
  there : Among (set.remove (set.union (only p) (set.remove (set.union (only q) (only r)) r)) q) (only p)
  there x h =
      let out = holds_remove (set.union (only p) (set.remove (set.union (only q) (only r)) r)) q x h in
      elim (holds_union (only p) (set.remove (set.union (only q) (only r)) r) x out.1) [
        | inl m ↦ m
        | inr m ↦
            let inner = holds_remove (set.union (only q) (only r)) r x m in
            elim (holds_union (only q) (only r) x inner.1) [ inl k ↦ absurd (out.0 (holds_only q x k)) | inr k ↦ absurd (inner.0 (holds_only r x k)) ]
      ]

  back : Among (only p) (set.remove (set.union (only p) (set.remove (set.union (only q) (only r)) r)) q)
  back x h =
      in_remove (set.union (only p) (set.remove (set.union (only q) (only r)) r)) q x (λ e. differs (sym (holds_only p x h) ∙ e))
      (in_left (only p) (set.remove (set.union (only q) (only r)) r) x h)

  one_left : set.remove (set.union (only p) (set.remove (set.union (only q) (only r)) r)) q ≡ only p
  one_left = same_members (set.remove (set.union (only p) (set.remove (set.union (only q) (only r)) r)) q) (only p) there back

pub failure_alone : (a : Ty) (f g r : Term) → set.remove (set.union (only (neg (all a f))) (set.remove (set.union (only (neg (some a g))) (only r)) r)) (neg (some a g)) ≡ only (neg (all a f))
failure_alone a f g r = one_left (neg (all a f)) (neg (some a g)) r (unlike a f g)
