-- Every rule keeps truth in a model.
use Rattle.std.proofs.Common.{◌≡◌, ◌≢◌, ℕ, ◌<◌, Bool, true, false, not, ◌&&◌, ◌==◌, if◌then◌else◌, IsTrue, refl, sym, ◌∙◌, ap, subst, [], Some, None, inl, inr}
use Rattle.std.specs.Prelude.{Option}
use Rattle.std.specs.Ordering.{eq_by_cmp}
use Rattle.std.specs.FinSet as set
use Rattle.hol_terms.specs.declared.ty.Ty.{Ty}
use Rattle.hol_terms.specs.declared.konst.Konst.TheVariants as konst
use Rattle.hol_terms.specs.declared.sig.Sig.{Sig}
use Rattle.hol_terms.specs.declared.term.Term.{Term}
use Rattle.hol_terms.specs.Types.{bool_ty, function_ty, ty_fits, is_ty}
use Rattle.hol_terms.specs.Typing.{type_of_term}
use Rattle.hol_terms.specs.Substitution.{put_free, one_put, occurs}
use Rattle.hol_terms.specs.Formulas.{is_formula, aux_free, IsFormula}
use Rattle.hol_terms.proofs.Both.{both_true}
use Rattle.hol_terms.proofs.TyCases.{is_ty_same}
use Rattle.hol_terms.proofs.Formulas.{formula_typed}
use Rattle.hol_terms.proofs.TypedParts.{own_type_fits, bool_fits}
use Rattle.hyp_sets.specs.Order.{is_same, term_cmp}
use Rattle.hyp_sets.specs.Sets.{TermSet, only, image, absent, absent_in, Holds}
use Rattle.hyp_sets.proofs.OrderLaws.{tied_equal, equal_tied}
use Rattle.hyp_sets.proofs.Members.{in_left, in_right, in_remove, in_only, all_in_each}
use Rattle.hyp_sets.proofs.Images.{in_image}
use Rattle.kernel_rules.specs.declared.sequent.Sequent.{Sequent}
use Rattle.kernel_rules.specs.Connectives.{lambda_over, verum, falsum, neg, conj, disj, imp, equal, all, some, chosen, left_of, right_of, function_of, head_ty, is_conj, is_disj, is_imp, is_equal, is_neg, is_all, is_some_of, is_falsum, is_redex, applied_to, contracted}
use Rattle.kernel_rules.specs.Rules.{seq, when, with_type, is_given, assume_of, imp_intro_of, imp_elim_of, and_intro_of, and_left_of, and_right_of, or_left_of, or_right_of, or_elim_of, not_intro_of, not_elim_of, true_intro_of, classical_of, all_intro_of, all_elim_of, ex_intro_of, choose_of, refl_of, subst_of, beta_of, abs_of, iff_of, inst_of}
use Rattle.kernel_rules.specs.Formulas.{IsOver}
use Rattle.kernel_rules.proofs.Parts.{conj_is, disj_is, imp_is, equal_is, neg_is, all_is, some_is, falsum_is, redex_is}
use Rattle.kernel_rules.proofs.GivenTerms.{given_typed}
use Rattle.kernel_rules.proofs.TypedTerms.{binary_sides, equal_sides, all_property, some_property, chosen_typed, lambda_over_typed, apply_parts, applied_typed}
use Rattle.model_truth.specs.declared.model.Model.{Model}
use Rattle.model_truth.specs.Sizes.{size, IsModel}
use Rattle.model_truth.specs.Values.{Valuation, at, value_of}
use Rattle.model_truth.specs.Truth.{InRange, updated, Makes, IsTrueIn}
use Rattle.model_truth.proofs.Digits.{equal_digits}
use Rattle.model_truth.proofs.Sizing.{size_positive, size-function}
use Rattle.model_truth.proofs.Ranges.{own_value_below}
use Rattle.model_truth.proofs.Substituting.{value_replaced, value_absent}
use Rattle.model_truth.proofs.Meanings.{val_apply, val_applied, at_lambda_over, decide, makes_verum, makes_falsum, makes_neg, neg_makes, makes_conj, conj_makes, makes_left, makes_right, disj_makes, makes_imp, imp_makes, makes_equal, equal_makes, made_alike, makes_all, all_makes, makes_some, some_makes}

when_some : (b : Bool) (q r : Sequent) → when b q ≡ Some r → (b ≡ true) × (q ≡ r)
when_some true q r h = (refl, cc)
when_some false q r h = cc

pub in_range_updated : (m : Model) (v : Valuation) (n : ℕ) (a : Ty) (x : ℕ) → InRange m v → x < size m a → InRange m (updated v n a x)
in_range_updated m v n a x range h k b = chosen (k == n && is_ty b a) refl
  where
    chosen : (hit : Bool) → (k == n && is_ty b a) ≡ hit → (if hit then x else v k b) < size m b
    chosen true e = subst (λ z. x < size m z) (sym (is_ty_same b a (both_true (k == n) (is_ty b a) e).1)) h
    chosen false e = range k b

module _ (sig : Sig) (m : Model) (is : IsModel sig m) (has_bool : 0 < sig.types) where
  -- the valuation makes each hypothesis true
  abbrev Meets : Valuation → TermSet → Type 0
  Meets v g = (x : Term) → Holds g x → Makes sig m v x

  meets_left : (v : Valuation) (g d : TermSet) → Meets v (set.union g d) → Meets v g
  meets_left v g d each x h = each x (in_left g d x h)

  meets_right : (v : Valuation) (g d : TermSet) → Meets v (set.union g d) → Meets v d
  meets_right v g d each x h = each x (in_right g d x h)

  -- one that was taken out is true besides
  meets_with : (v : Valuation) (g : TermSet) (t : Term) → Meets v (set.remove g t) → Makes sig m v t → Meets v g
  meets_with v g t each own x h = chosen (eq_by_cmp term_cmp x t) refl
    where
      differs : eq_by_cmp term_cmp x t ≡ false → x ≢ t
      differs e same = let tied = equal_tied x t same in cc

      chosen : (b : Bool) → eq_by_cmp term_cmp x t ≡ b → Makes sig m v x
      chosen true e = subst (Makes sig m v) (sym (tied_equal x t e)) own
      chosen false e = each x (in_remove g t x (differs e) h)

  so : (b : Bool) (q r : Sequent) → (b ≡ true → IsTrueIn sig m q) → when b q ≡ Some r → IsTrueIn sig m r
  so b q r each h = let both = when_some b q r h in subst (IsTrueIn sig m) both.1 (each both.0)

  pub given : (q r : Sequent) → IsTrueIn sig m q → ◌≡◌ {A = Option Sequent} (Some q) (Some r) → IsTrueIn sig m r
  given q r each h = let same : q ≡ r = cc in subst (IsTrueIn sig m) same each

  of_type : (o : Option Ty) (f : Ty → Option Sequent) (r : Sequent) → ((a : Ty) → o ≡ Some a → f a ≡ Some r → IsTrueIn sig m r) → with_type o f ≡ Some r → IsTrueIn sig m r
  of_type None f r each h = cc
  of_type (Some a) f r each h = each a refl h

  prop : (t : Term) → IsFormula sig t → type_of_term sig t ≡ Some bool_ty
  prop t h = formula_typed sig t h

  -- ---- assumptions and implication
  pub assume_true : (t : Term) (r : Sequent) → assume_of sig t ≡ Some r → IsTrueIn sig m r
  assume_true t r h = so (is_formula sig t) (seq (only t) t) r (λ f v range each. each t (in_only t t refl)) h

  pub imp_intro_true : (t : Term) (p r : Sequent) → IsOver sig p → IsTrueIn sig m p → imp_intro_of sig t p ≡ Some r → IsTrueIn sig m r
  imp_intro_true t p r op tp h =
      so (is_formula sig t) (seq (set.remove p.hyps t) (imp t p.concl)) r
      (λ f v range each. makes_imp sig m is v range t p.concl (prop t f) (prop p.concl op.concl) (λ own. tp v range (meets_with v p.hyps t each own))) h

  pub imp_elim_true : (p q r : Sequent) → IsOver sig p → IsTrueIn sig m p → IsTrueIn sig m q → imp_elim_of p q ≡ Some r → IsTrueIn sig m r
  imp_elim_true p q r op tp tq h =
      so (is_imp p.concl && is_same (left_of p.concl) q.concl) (seq (set.union p.hyps q.hyps) (right_of p.concl)) r
      (λ b v range each.
      let both = both_true (is_imp p.concl) (is_same (left_of p.concl) q.concl) b in
      let whole = imp_is p.concl both.0 in
      let sides = binary_sides sig konst.Imp (left_of p.concl) (right_of p.concl) refl (subst (IsFormula sig) whole op.concl) in
      imp_makes sig m is v range (left_of p.concl) (right_of p.concl) (prop _ sides.0) (prop _ sides.1) (subst (Makes sig m v) whole (tp v range (meets_left v p.hyps q.hyps each)))
      (subst (Makes sig m v) (sym (tied_equal (left_of p.concl) q.concl both.1)) (tq v range (meets_right v p.hyps q.hyps each)))) h

  -- ---- conjunction
  pub and_intro_true : (p q r : Sequent) → IsOver sig p → IsOver sig q → IsTrueIn sig m p → IsTrueIn sig m q → and_intro_of p q ≡ Some r → IsTrueIn sig m r
  and_intro_true p q r op oq tp tq h =
      given (seq (set.union p.hyps q.hyps) (conj p.concl q.concl)) r
      (λ v range each. makes_conj sig m is v range p.concl q.concl (prop _ op.concl) (prop _ oq.concl) (tp v range (meets_left v p.hyps q.hyps each)) (tq v range (meets_right v p.hyps q.hyps each))) h

  conj_sides : (p : Sequent) → is_conj p.concl ≡ true → IsOver sig p → (v : Valuation) → InRange m v → Makes sig m v p.concl → Makes sig m v (left_of p.concl) × Makes sig m v (right_of p.concl)
  conj_sides p b op v range k =
      let whole = conj_is p.concl b in
      let sides = binary_sides sig konst.And (left_of p.concl) (right_of p.concl) refl (subst (IsFormula sig) whole op.concl) in
      conj_makes sig m is v range (left_of p.concl) (right_of p.concl) (prop _ sides.0) (prop _ sides.1) (subst (Makes sig m v) whole k)

  pub and_left_true : (p r : Sequent) → IsOver sig p → IsTrueIn sig m p → and_left_of p ≡ Some r → IsTrueIn sig m r
  and_left_true p r op tp h = so (is_conj p.concl) (seq p.hyps (left_of p.concl)) r (λ b v range each. (conj_sides p b op v range (tp v range each)).0) h

  pub and_right_true : (p r : Sequent) → IsOver sig p → IsTrueIn sig m p → and_right_of p ≡ Some r → IsTrueIn sig m r
  and_right_true p r op tp h = so (is_conj p.concl) (seq p.hyps (right_of p.concl)) r (λ b v range each. (conj_sides p b op v range (tp v range each)).1) h

  -- ---- disjunction
  pub or_left_true : (t : Term) (p r : Sequent) → IsOver sig p → IsTrueIn sig m p → or_left_of sig t p ≡ Some r → IsTrueIn sig m r
  or_left_true t p r op tp h =
      so (is_formula sig t) (seq p.hyps (disj p.concl t)) r (λ f v range each. makes_left sig m is v range p.concl t (prop _ op.concl) (prop t f) (tp v range each)) h

  pub or_right_true : (t : Term) (p r : Sequent) → IsOver sig p → IsTrueIn sig m p → or_right_of sig t p ≡ Some r → IsTrueIn sig m r
  or_right_true t p r op tp h =
      so (is_formula sig t) (seq p.hyps (disj t p.concl)) r (λ f v range each. makes_right sig m is v range t p.concl (prop t f) (prop _ op.concl) (tp v range each)) h

  pub or_elim_true : (p l s r : Sequent) → IsOver sig p → IsTrueIn sig m p → IsTrueIn sig m l → IsTrueIn sig m s → or_elim_of p l s ≡ Some r → IsTrueIn sig m r
  or_elim_true p l s r op tp tl ts h =
      so (is_disj p.concl && is_same l.concl s.concl) (seq (set.union (set.union p.hyps (set.remove l.hyps (left_of p.concl))) (set.remove s.hyps (right_of p.concl))) l.concl) r
      (λ b v range each.
      let both = both_true (is_disj p.concl) (is_same l.concl s.concl) b in
      let whole = disj_is p.concl both.0 in
      let sides = binary_sides sig konst.Or (left_of p.concl) (right_of p.concl) refl (subst (IsFormula sig) whole op.concl) in
      let first = meets_left v (set.union p.hyps (set.remove l.hyps (left_of p.concl))) (set.remove s.hyps (right_of p.concl)) each in
      let last = meets_right v (set.union p.hyps (set.remove l.hyps (left_of p.concl))) (set.remove s.hyps (right_of p.concl)) each in
      elim (disj_makes sig m is v range (left_of p.concl) (right_of p.concl) (prop _ sides.0) (prop _ sides.1) (subst (Makes sig m v) whole (tp v range (meets_left v p.hyps (set.remove l.hyps (left_of p.concl)) first)))) [
        | inl own ↦ tl v range (meets_with v l.hyps (left_of p.concl) (meets_right v p.hyps (set.remove l.hyps (left_of p.concl)) first) own)
        | inr own ↦ subst (Makes sig m v) (sym (tied_equal l.concl s.concl both.1)) (ts v range (meets_with v s.hyps (right_of p.concl) last own))
      ]) h

  -- ---- negation
  never : (v : Valuation) (t : Term) → is_falsum t ≡ true → (InRange m v) → Makes sig m v t → ⊥
  never v t e range h = makes_falsum sig m is v range (subst (Makes sig m v) (falsum_is t e) h)

  pub not_intro_true : (t : Term) (p r : Sequent) → IsTrueIn sig m p → not_intro_of sig t p ≡ Some r → IsTrueIn sig m r
  not_intro_true t p r tp h =
      so (is_formula sig t && is_falsum p.concl) (seq (set.remove p.hyps t) (neg t)) r
      (λ b v range each.
      let both = both_true (is_formula sig t) (is_falsum p.concl) b in
      makes_neg sig m is v range t (prop t both.0) (λ own. never v p.concl both.1 range (tp v range (meets_with v p.hyps t each own)))) h

  pub not_elim_true : (p q r : Sequent) → IsOver sig p → IsOver sig q → IsTrueIn sig m p → IsTrueIn sig m q → not_elim_of p q ≡ Some r → IsTrueIn sig m r
  not_elim_true p q r op oq tp tq h =
      so (is_neg p.concl && is_same (right_of p.concl) q.concl) (seq (set.union p.hyps q.hyps) falsum) r
      (λ b v range each.
      let both = both_true (is_neg p.concl) (is_same (right_of p.concl) q.concl) b in
      let same = tied_equal (right_of p.concl) q.concl both.1 in
      absurd (neg_makes sig m is v range (right_of p.concl) (subst (λ z. type_of_term sig z ≡ Some bool_ty) (sym same) (prop _ oq.concl))
      (subst (Makes sig m v) (neg_is p.concl both.0) (tp v range (meets_left v p.hyps q.hyps each))) (subst (Makes sig m v) (sym same) (tq v range (meets_right v p.hyps q.hyps each))))) h

  pub true_intro_true : (r : Sequent) → true_intro_of ≡ Some r → IsTrueIn sig m r
  true_intro_true r h = given (seq set.empty verum) r (λ v range each. makes_verum sig m is v range) h

  pub classical_true : (t : Term) (p r : Sequent) → IsTrueIn sig m p → classical_of sig t p ≡ Some r → IsTrueIn sig m r
  classical_true t p r tp h =
      so (is_formula sig t && is_falsum p.concl) (seq (set.remove p.hyps (neg t)) t) r
      (λ b v range each.
      let both = both_true (is_formula sig t) (is_falsum p.concl) b in
      elim (decide sig m is v range t) [
        | inl own ↦ own
        | inr other ↦ absurd (never v p.concl both.1 range (tp v range (meets_with v p.hyps (neg t) each (makes_neg sig m is v range t (prop t both.0) other))))
      ]) h

  -- ---- quantifiers
  -- another value of an absent variable leaves the hypotheses true
  meets_updated : (v : Valuation) (g : TermSet) (n : ℕ) (a : Ty) (x : ℕ) → absent n a g ≡ true → Meets v g → Meets (updated v n a x) g
  meets_updated v g n a x lacks each y h = value_absent sig m v n a x y [] [] (not_true (occurs n a y) (all_in_each (absent_in n a) g lacks y h)) ∙ each y h
    where
      not_true : (b : Bool) → not b ≡ true → b ≡ false
      not_true true k = cc
      not_true false k = refl

  pub all_intro_true : (n : ℕ) (a : Ty) (p r : Sequent) → IsOver sig p → IsTrueIn sig m p → all_intro_of sig n a p ≡ Some r → IsTrueIn sig m r
  all_intro_true n a p r op tp h =
      so (ty_fits sig.types a && absent n a p.hyps) (seq p.hyps (all a (lambda_over n a p.concl))) r
      (λ b v range each.
      let both = both_true (ty_fits sig.types a) (absent n a p.hyps) b in
      makes_all sig m is v range a (lambda_over n a p.concl) both.0 (lambda_over_typed sig n a bool_ty p.concl both.0 (prop _ op.concl))
      (λ x k. at_lambda_over sig m is v range n a bool_ty p.concl x both.0 (prop _ op.concl) (λ y l. in_range_updated m v n a y range l) k
      ∙ tp (updated v n a x) (in_range_updated m v n a x range k) (meets_updated v p.hyps n a x both.1 each))) h

  pub all_elim_true : (t : Term) (p r : Sequent) → IsOver sig p → IsTrueIn sig m p → all_elim_of sig t p ≡ Some r → IsTrueIn sig m r
  all_elim_true t p r op tp h =
      so (is_all p.concl && is_given sig t (head_ty p.concl)) (seq p.hyps (applied_to (right_of p.concl) t)) r
      (λ b v range each.
      let both = both_true (is_all p.concl) (is_given sig t (head_ty p.concl)) b in
      let whole = all_is p.concl both.0 in
      let of = all_property sig (head_ty p.concl) (right_of p.concl) (subst (IsFormula sig) whole op.concl) in
      let own = given_typed sig t (head_ty p.concl) both.1 in
      val_applied sig m is v range (right_of p.concl) t (head_ty p.concl) bool_ty of.1.0 own
      ∙ all_makes sig m is v range (head_ty p.concl) (right_of p.concl) (value_of sig m v t) of.0 of.1.0 (subst (Makes sig m v) whole (tp v range each)) (own_value_below sig m is v range t (head_ty p.concl) own)) h

  pub ex_intro_true : (f t : Term) (p r : Sequent) → IsTrueIn sig m p → ex_intro_of sig f t p ≡ Some r → IsTrueIn sig m r
  ex_intro_true f t p r tp h =
      of_type (type_of_term sig t) (λ a. when ((is_given sig f (function_ty a bool_ty) && aux_free t) && is_same p.concl (applied_to f t)) (seq p.hyps (some a f))) r
      (λ a ht k.
      so ((is_given sig f (function_ty a bool_ty) && aux_free t) && is_same p.concl (applied_to f t)) (seq p.hyps (some a f)) r
      (λ b v range each.
      let outer = both_true (is_given sig f (function_ty a bool_ty) && aux_free t) (is_same p.concl (applied_to f t)) b in
      let own = given_typed sig f (function_ty a bool_ty) (both_true (is_given sig f (function_ty a bool_ty)) (aux_free t) outer.0).0 in
      makes_some sig m is v range a f (value_of sig m v t) (own_type_fits sig has_bool t a ht) own (own_value_below sig m is v range t a ht)
      (sym (val_applied sig m is v range f t a bool_ty own ht) ∙ subst (Makes sig m v) (tied_equal p.concl (applied_to f t) outer.1) (tp v range each))) k) h

  pub choose_true : (p r : Sequent) → IsOver sig p → IsTrueIn sig m p → choose_of p ≡ Some r → IsTrueIn sig m r
  choose_true p r op tp h =
      so (is_some_of p.concl) (seq p.hyps (applied_to (right_of p.concl) (chosen (head_ty p.concl) (right_of p.concl)))) r
      (λ b v range each.
      let whole = some_is p.concl b in
      let of = some_property sig (head_ty p.concl) (right_of p.concl) (subst (IsFormula sig) whole op.concl) in
      val_applied sig m is v range (right_of p.concl) (chosen (head_ty p.concl) (right_of p.concl)) (head_ty p.concl) bool_ty of.1.0 (chosen_typed sig (head_ty p.concl) (right_of p.concl) of.0 of.1.0)
      ∙ some_makes sig m is v range (head_ty p.concl) (right_of p.concl) of.0 of.1.0 (subst (Makes sig m v) whole (tp v range each))) h

  -- ---- equations
  pub refl_true : (t : Term) (r : Sequent) → refl_of sig t ≡ Some r → IsTrueIn sig m r
  refl_true t r h =
      of_type (type_of_term sig t) (λ a. when (aux_free t) (seq set.empty (equal a t t))) r
      (λ a ht k. so (aux_free t) (seq set.empty (equal a t t)) r (λ b v range each. makes_equal sig m is v range a t t (own_type_fits sig has_bool t a ht) ht ht refl) k) h

  pub subst_true : (f : Term) (p q r : Sequent) → IsOver sig p → IsTrueIn sig m p → IsTrueIn sig m q → subst_of sig f p q ≡ Some r → IsTrueIn sig m r
  subst_true f p q r op tp tq h =
      so ((is_equal p.concl && is_given sig f (function_ty (head_ty p.concl) bool_ty)) && is_same q.concl (applied_to f (left_of p.concl)))
      (seq (set.union p.hyps q.hyps) (applied_to f (right_of p.concl))) r
      (λ b v range each.
      let outer = both_true (is_equal p.concl && is_given sig f (function_ty (head_ty p.concl) bool_ty)) (is_same q.concl (applied_to f (left_of p.concl))) b in
      let inner = both_true (is_equal p.concl) (is_given sig f (function_ty (head_ty p.concl) bool_ty)) outer.0 in
      let whole = equal_is p.concl inner.0 in
      let own = given_typed sig f (function_ty (head_ty p.concl) bool_ty) inner.1 in
      let sides = equal_sides sig (head_ty p.concl) (left_of p.concl) (right_of p.concl) (subst (IsFormula sig) whole op.concl) in
      let same = equal_makes sig m is v range (head_ty p.concl) (left_of p.concl) (right_of p.concl) sides.0 sides.1.0 sides.1.1 (subst (Makes sig m v) whole (tp v range (meets_left v p.hyps q.hyps each))) in
      val_applied sig m is v range f (right_of p.concl) (head_ty p.concl) bool_ty own sides.1.1 ∙ ap (at m bool_ty (value_of sig m v f)) (sym same)
      ∙ sym (val_applied sig m is v range f (left_of p.concl) (head_ty p.concl) bool_ty own sides.1.0)
      ∙ subst (Makes sig m v) (tied_equal q.concl (applied_to f (left_of p.concl)) outer.1) (tq v range (meets_right v p.hyps q.hyps each))) h

  contracted_value : (t : Term) (a : Ty) (v : Valuation) → InRange m v → is_redex t ≡ true → type_of_term sig t ≡ Some a → (type_of_term sig (contracted t) ≡ Some a) × (value_of sig m v t ≡ value_of sig m v (contracted t))
  contracted_value t a v range h ht =
      let made = redex_is t h in
      let parts = apply_parts sig (function_of t) (right_of t) a (sym (ap (type_of_term sig) made.0) ∙ ht) in (
        applied_typed sig (function_of t) (right_of t) parts.0 a parts.1.0 parts.1.1,
        ap (value_of sig m v) made.0 ∙ val_apply sig m is v range (function_of t) (right_of t) parts.0 a parts.1.0 parts.1.1
            ∙ sym (val_applied sig m is v range (function_of t) (right_of t) parts.0 a parts.1.0 parts.1.1),
      )

  pub beta_true : (t : Term) (r : Sequent) → beta_of sig t ≡ Some r → IsTrueIn sig m r
  beta_true t r h =
      of_type (type_of_term sig t) (λ a. when (aux_free t && is_redex t) (seq set.empty (equal a t (contracted t)))) r
      (λ a ht k.
      so (aux_free t && is_redex t) (seq set.empty (equal a t (contracted t))) r
      (λ b v range each.
      let of = contracted_value t a v range (both_true (aux_free t) (is_redex t) b).1 ht in
      makes_equal sig m is v range a t (contracted t) (own_type_fits sig has_bool t a ht) ht of.0 of.1) k) h

  pub abs_true : (n : ℕ) (a : Ty) (p r : Sequent) → IsOver sig p → IsTrueIn sig m p → abs_of sig n a p ≡ Some r → IsTrueIn sig m r
  abs_true n a p r op tp h =
      so ((is_equal p.concl && ty_fits sig.types a) && absent n a p.hyps)
      (seq p.hyps (equal (function_ty a (head_ty p.concl)) (lambda_over n a (left_of p.concl)) (lambda_over n a (right_of p.concl)))) r
      (λ b v range each.
      let outer = both_true (is_equal p.concl && ty_fits sig.types a) (absent n a p.hyps) b in
      let inner = both_true (is_equal p.concl) (ty_fits sig.types a) outer.0 in
      let whole = equal_is p.concl inner.0 in
      let sides = equal_sides sig (head_ty p.concl) (left_of p.concl) (right_of p.concl) (subst (IsFormula sig) whole op.concl) in
      lambdas (head_ty p.concl) (left_of p.concl) (right_of p.concl) v range sides.0 inner.1 sides.1.0 sides.1.1
      (λ x k. equal_makes sig m is (updated v n a x) (in_range_updated m v n a x range k) (head_ty p.concl) (left_of p.concl) (right_of p.concl) sides.0 sides.1.0 sides.1.1
      (subst (Makes sig m (updated v n a x)) whole (tp (updated v n a x) (in_range_updated m v n a x range k) (meets_updated v p.hyps n a x outer.1 each))))) h
    where
      lambdas : (c : Ty) (s t : Term) (v : Valuation) → InRange m v → IsTrue (ty_fits sig.types c) → IsTrue (ty_fits sig.types a) → type_of_term sig s ≡ Some c → type_of_term sig t ≡ Some c →
          ((x : ℕ) → x < size m a → value_of sig m (updated v n a x) s ≡ value_of sig m (updated v n a x) t) → Makes sig m v (equal (function_ty a c) (lambda_over n a s) (lambda_over n a t))
      lambdas c s t v range fc fa hs ht each =
          let one = lambda_over_typed sig n a c s fa hs in
          let two = lambda_over_typed sig n a c t fa ht in
          makes_equal sig m is v range (function_ty a c) (lambda_over n a s) (lambda_over n a t) (own_type_fits sig has_bool (lambda_over n a s) (function_ty a c) one) one two
          (equal_digits (size m c) (size m a) (value_of sig m v (lambda_over n a s)) (value_of sig m v (lambda_over n a t)) (size_positive sig m is c)
          (subst (λ z. value_of sig m v (lambda_over n a s) < z) (size-function m a c) (own_value_below sig m is v range (lambda_over n a s) (function_ty a c) one))
          (subst (λ z. value_of sig m v (lambda_over n a t) < z) (size-function m a c) (own_value_below sig m is v range (lambda_over n a t) (function_ty a c) two))
          (λ x k. at_lambda_over sig m is v range n a c s x fa hs (λ y l. in_range_updated m v n a y range l) k ∙ each x k
          ∙ sym (at_lambda_over sig m is v range n a c t x fa ht (λ y l. in_range_updated m v n a y range l) k)))

  pub iff_true : (p q r : Sequent) → IsOver sig p → IsOver sig q → IsTrueIn sig m p → IsTrueIn sig m q → iff_of p q ≡ Some r → IsTrueIn sig m r
  iff_true p q r op oq tp tq h =
      so (((is_imp p.concl && is_imp q.concl) && is_same (left_of p.concl) (right_of q.concl)) && is_same (right_of p.concl) (left_of q.concl))
      (seq (set.union p.hyps q.hyps) (equal bool_ty (left_of p.concl) (right_of p.concl))) r
      (λ b v range each.
      let outer = both_true ((is_imp p.concl && is_imp q.concl) && is_same (left_of p.concl) (right_of q.concl)) (is_same (right_of p.concl) (left_of q.concl)) b in
      let middle = both_true (is_imp p.concl && is_imp q.concl) (is_same (left_of p.concl) (right_of q.concl)) outer.0 in
      let imps = both_true (is_imp p.concl) (is_imp q.concl) middle.0 in
      let one = imp_is p.concl imps.0 in
      let two = imp_is q.concl imps.1 in
      let sides = binary_sides sig konst.Imp (left_of p.concl) (right_of p.concl) refl (subst (IsFormula sig) one op.concl) in
      let others = binary_sides sig konst.Imp (left_of q.concl) (right_of q.concl) refl (subst (IsFormula sig) two oq.concl) in
      let ends = tied_equal (left_of p.concl) (right_of q.concl) middle.1 in
      let starts = tied_equal (right_of p.concl) (left_of q.concl) outer.1 in
      makes_equal sig m is v range bool_ty (left_of p.concl) (right_of p.concl) (bool_fits sig has_bool) (prop _ sides.0) (prop _ sides.1)
      (made_alike sig m is v range (left_of p.concl) (right_of p.concl) (prop _ sides.0) (prop _ sides.1)
      (imp_makes sig m is v range (left_of p.concl) (right_of p.concl) (prop _ sides.0) (prop _ sides.1) (subst (Makes sig m v) one (tp v range (meets_left v p.hyps q.hyps each))))
      (λ k. subst (Makes sig m v) (sym ends)
      (imp_makes sig m is v range (left_of q.concl) (right_of q.concl) (prop _ others.0) (prop _ others.1) (subst (Makes sig m v) two (tq v range (meets_right v p.hyps q.hyps each)))
      (subst (Makes sig m v) starts k))))) h

  -- ---- instances
  pub inst_true : (n : ℕ) (a : Ty) (t : Term) (p r : Sequent) → IsTrueIn sig m p → inst_of sig n a t p ≡ Some r → IsTrueIn sig m r
  inst_true n a t p r tp h =
      so (ty_fits sig.types a && is_given sig t a) (seq (image (put_free (one_put n a t)) p.hyps) (put_free (one_put n a t) p.concl)) r
      (λ b v range each.
      let both = both_true (ty_fits sig.types a) (is_given sig t a) b in
      let own = given_typed sig t a both.1 in
      value_replaced sig m v n a t both.0 own p.concl [] []
      ∙ tp (updated v n a (value_of sig m v t)) (in_range_updated m v n a (value_of sig m v t) range (own_value_below sig m is v range t a own))
      (λ x k. sym (value_replaced sig m v n a t both.0 own x [] []) ∙ each (put_free (one_put n a t) x) (in_image (put_free (one_put n a t)) p.hyps x k))) h
