-- Every rule makes sequents over the signature of sequents over it.
use Rattle.std.proofs.Common.{◌≡◌, ℕ, zero, suc, ◌<◌, ◌++◌, Bool, true, false, ◌&&◌, if◌then◌else◌, IsTrue, refl, sym, ◌∙◌, ap, subst, List, [], ◌∷◌, Some, None, inl, inr, slice_get}
use Rattle.std.specs.Prelude.{Option}
use Rattle.std.specs.List.{list_all}
use Rattle.std.specs.FinSet as set
use Rattle.hol_terms.specs.declared.ty.Ty.{Ty}
use Rattle.hol_terms.specs.declared.konst.Konst.TheVariants as konst
use Rattle.hol_terms.specs.declared.sig.Sig.{Sig}
use Rattle.hol_terms.specs.declared.env.Env.{Env}
use Rattle.hol_terms.specs.declared.term.Term.{Term}
use Rattle.hol_terms.specs.Types.{bool_ty, function_ty, ty_fits}
use Rattle.hol_terms.specs.Typing.{type_of_term}
use Rattle.hol_terms.specs.Substitution.{put_free, one_put}
use Rattle.hol_terms.specs.Formulas.{is_formula, aux_free, IsFormula, is_sentence}
use Rattle.hol_terms.proofs.Both.{both_true}
use Rattle.hol_terms.proofs.Formulas.{formula_typed, formula_aux_free, formula_from, aux_free_replaced, aux_free_one_put, sentence_formula}
use Rattle.hol_terms.proofs.Replaces.{type_replaced}
use Rattle.hol_terms.proofs.TypedParts.{own_type_fits, bool_fits}
use Rattle.hyp_sets.specs.Order.{is_same}
use Rattle.hyp_sets.specs.Sets.{TermSet, only, image, absent, Holds}
use Rattle.hyp_sets.proofs.OrderLaws.{tied_equal}
use Rattle.hyp_sets.proofs.Members.{holds_union, holds_remove, holds_only, none_held}
use Rattle.hyp_sets.proofs.Images.{holds_image}
use Rattle.kernel_rules.specs.declared.step.Step.{Step}
use Rattle.kernel_rules.specs.declared.step.Step.TheVariants as step
use Rattle.kernel_rules.specs.declared.sequent.Sequent.{Sequent}
use Rattle.kernel_rules.specs.Connectives.{constant, apply, lambda, lambda_over, verum, falsum, neg, conj, disj, imp, equal, all, some, chosen, left_of, right_of, function_of, head_ty, is_conj, is_disj, is_imp, is_equal, is_neg, is_all, is_some_of, is_falsum, is_redex, applied_to, contracted}
use Rattle.kernel_rules.specs.Rules.{seq, when, with_type, is_given, fact_of, assume_of, imp_intro_of, imp_elim_of, and_intro_of, and_left_of, and_right_of, or_left_of, or_right_of, or_elim_of, not_intro_of, not_elim_of, true_intro_of, classical_of, all_intro_of, all_elim_of, ex_intro_of, choose_of, refl_of, subst_of, beta_of, abs_of, iff_of, inst_of}
use Rattle.kernel_rules.specs.Derivations.{from_fact, from_one, from_two, from_three, sequent, onto, derived_from, derived}
use Rattle.kernel_rules.specs.Formulas.{IsOver, AreOver}
use Rattle.kernel_rules.proofs.Parts.{conj_is, disj_is, imp_is, equal_is, neg_is, all_is, some_is, redex_is}
use Rattle.kernel_rules.proofs.GivenTerms.{given_typed, given_aux_free}
use Rattle.kernel_rules.proofs.TypedTerms.{conj_formula, disj_formula, imp_formula, neg_formula, constant_formula, equal_formula, all_formula, some_formula, chosen_typed, chosen_aux_free, lambda_over_typed, lambda_over_aux_free, apply_parts, apply_parts_aux_free, binary_sides, equal_sides, equal_aux_free, all_property, some_property, applied_typed, applied_aux_free, applied_formula}

when_some : (b : Bool) (q r : Sequent) → when b q ≡ Some r → (b ≡ true) × (q ≡ r)
when_some true q r h = (refl, cc)
when_some false q r h = cc

module _ (sig : Sig) (has_bool : 0 < sig.types) where
  abbrev Each : TermSet → Type 0
  Each g = (x : Term) → Holds g x → IsFormula sig x

  each_union : (g d : TermSet) → Each g → Each d → Each (set.union g d)
  each_union g d hg hd x h = elim (holds_union g d x h) [ inl k ↦ hg x k | inr k ↦ hd x k ]

  each_remove : (g : TermSet) (t : Term) → Each g → Each (set.remove g t)
  each_remove g t hg x h = hg x (holds_remove g t x h).1

  each_only : (t : Term) → IsFormula sig t → Each (only t)
  each_only t ht x h = subst (IsFormula sig) (sym (holds_only t x h)) ht

  each_none : Each set.empty
  each_none x h = absurd (none_held x h)

  over : (g : TermSet) (c : Term) → IsFormula sig c → Each g → IsOver sig (seq g c)
  over g c hc hg = record { concl = hc; hyps = hg }

  -- what a condition gives
  so : (b : Bool) (q r : Sequent) → (b ≡ true → IsOver sig q) → when b q ≡ Some r → IsOver sig r
  so b q r each h = let both = when_some b q r h in subst (IsOver sig) both.1 (each both.0)

  given : (q r : Sequent) → IsOver sig q → ◌≡◌ {A = Option Sequent} (Some q) (Some r) → IsOver sig r
  given q r each h = let same : q ≡ r = cc in subst (IsOver sig) same each

  typed : (o : Option Ty) (f : Ty → Option Sequent) (r : Sequent) → ((a : Ty) → o ≡ Some a → f a ≡ Some r → IsOver sig r) → with_type o f ≡ Some r → IsOver sig r
  typed None f r each h = cc
  typed (Some a) f r each h = each a refl h

  -- sides of conclusions
  imp_sides : (t : Term) → is_imp t ≡ true → IsFormula sig t → IsFormula sig (left_of t) × IsFormula sig (right_of t)
  imp_sides t h f = binary_sides sig konst.Imp (left_of t) (right_of t) refl (subst (IsFormula sig) (imp_is t h) f)

  conj_sides : (t : Term) → is_conj t ≡ true → IsFormula sig t → IsFormula sig (left_of t) × IsFormula sig (right_of t)
  conj_sides t h f = binary_sides sig konst.And (left_of t) (right_of t) refl (subst (IsFormula sig) (conj_is t h) f)

  falsum_formula : IsFormula sig falsum
  falsum_formula = constant_formula sig konst.False refl refl

  assume_over : (t : Term) (r : Sequent) → assume_of sig t ≡ Some r → IsOver sig r
  assume_over t r h = so (is_formula sig t) (seq (only t) t) r (λ f. over (only t) t f (each_only t f)) h

  imp_intro_over : (t : Term) (p r : Sequent) → IsOver sig p → imp_intro_of sig t p ≡ Some r → IsOver sig r
  imp_intro_over t p r op h = so (is_formula sig t) (seq (set.remove p.hyps t) (imp t p.concl)) r (λ f. over _ _ (imp_formula sig t p.concl f op.concl) (each_remove p.hyps t op.hyps)) h

  imp_elim_over : (p q r : Sequent) → IsOver sig p → IsOver sig q → imp_elim_of p q ≡ Some r → IsOver sig r
  imp_elim_over p q r op oq h =
      so (is_imp p.concl && is_same (left_of p.concl) q.concl) (seq (set.union p.hyps q.hyps) (right_of p.concl)) r
      (λ b. over _ _ (imp_sides p.concl (both_true (is_imp p.concl) (is_same (left_of p.concl) q.concl) b).0 op.concl).1 (each_union p.hyps q.hyps op.hyps oq.hyps)) h

  and_intro_over : (p q r : Sequent) → IsOver sig p → IsOver sig q → and_intro_of p q ≡ Some r → IsOver sig r
  and_intro_over p q r op oq h = given (seq (set.union p.hyps q.hyps) (conj p.concl q.concl)) r (over _ _ (conj_formula sig p.concl q.concl op.concl oq.concl) (each_union p.hyps q.hyps op.hyps oq.hyps)) h

  and_left_over : (p r : Sequent) → IsOver sig p → and_left_of p ≡ Some r → IsOver sig r
  and_left_over p r op h = so (is_conj p.concl) (seq p.hyps (left_of p.concl)) r (λ b. over _ _ (conj_sides p.concl b op.concl).0 op.hyps) h

  and_right_over : (p r : Sequent) → IsOver sig p → and_right_of p ≡ Some r → IsOver sig r
  and_right_over p r op h = so (is_conj p.concl) (seq p.hyps (right_of p.concl)) r (λ b. over _ _ (conj_sides p.concl b op.concl).1 op.hyps) h

  or_left_over : (t : Term) (p r : Sequent) → IsOver sig p → or_left_of sig t p ≡ Some r → IsOver sig r
  or_left_over t p r op h = so (is_formula sig t) (seq p.hyps (disj p.concl t)) r (λ f. over _ _ (disj_formula sig p.concl t op.concl f) op.hyps) h

  or_right_over : (t : Term) (p r : Sequent) → IsOver sig p → or_right_of sig t p ≡ Some r → IsOver sig r
  or_right_over t p r op h = so (is_formula sig t) (seq p.hyps (disj t p.concl)) r (λ f. over _ _ (disj_formula sig t p.concl f op.concl) op.hyps) h

  or_elim_over : (p q s r : Sequent) → IsOver sig p → IsOver sig q → IsOver sig s → or_elim_of p q s ≡ Some r → IsOver sig r
  or_elim_over p q s r op oq os h =
      so (is_disj p.concl && is_same q.concl s.concl) (seq (set.union (set.union p.hyps (set.remove q.hyps (left_of p.concl))) (set.remove s.hyps (right_of p.concl))) q.concl) r
      (λ b. over _ _ oq.concl
      (each_union (set.union p.hyps (set.remove q.hyps (left_of p.concl))) (set.remove s.hyps (right_of p.concl))
      (each_union p.hyps (set.remove q.hyps (left_of p.concl)) op.hyps (each_remove q.hyps (left_of p.concl) oq.hyps)) (each_remove s.hyps (right_of p.concl) os.hyps))) h

  not_intro_over : (t : Term) (p r : Sequent) → IsOver sig p → not_intro_of sig t p ≡ Some r → IsOver sig r
  not_intro_over t p r op h =
      so (is_formula sig t && is_falsum p.concl) (seq (set.remove p.hyps t) (neg t)) r (λ b. over _ _ (neg_formula sig t (both_true (is_formula sig t) (is_falsum p.concl) b).0) (each_remove p.hyps t op.hyps)) h

  not_elim_over : (p q r : Sequent) → IsOver sig p → IsOver sig q → not_elim_of p q ≡ Some r → IsOver sig r
  not_elim_over p q r op oq h =
      so (is_neg p.concl && is_same (right_of p.concl) q.concl) (seq (set.union p.hyps q.hyps) falsum) r (λ b. over _ _ falsum_formula (each_union p.hyps q.hyps op.hyps oq.hyps)) h

  classical_over : (t : Term) (p r : Sequent) → IsOver sig p → classical_of sig t p ≡ Some r → IsOver sig r
  classical_over t p r op h =
      so (is_formula sig t && is_falsum p.concl) (seq (set.remove p.hyps (neg t)) t) r (λ b. over _ _ (both_true (is_formula sig t) (is_falsum p.concl) b).0 (each_remove p.hyps (neg t) op.hyps)) h

  all_intro_over : (n : ℕ) (a : Ty) (p r : Sequent) → IsOver sig p → all_intro_of sig n a p ≡ Some r → IsOver sig r
  all_intro_over n a p r op h =
      so (ty_fits sig.types a && absent n a p.hyps) (seq p.hyps (all a (lambda_over n a p.concl))) r
      (λ b. let fits = (both_true (ty_fits sig.types a) (absent n a p.hyps) b).0 in
      over _ _
      (all_formula sig a (lambda_over n a p.concl) fits (lambda_over_typed sig n a bool_ty p.concl fits (formula_typed sig p.concl op.concl))
      (lambda_over_aux_free sig n a p.concl (formula_aux_free sig p.concl op.concl))) op.hyps) h

  all_elim_over : (t : Term) (p r : Sequent) → IsOver sig p → all_elim_of sig t p ≡ Some r → IsOver sig r
  all_elim_over t p r op h =
      so (is_all p.concl && is_given sig t (head_ty p.concl)) (seq p.hyps (applied_to (right_of p.concl) t)) r
      (λ b. let both = both_true (is_all p.concl) (is_given sig t (head_ty p.concl)) b in
      let of = all_property sig (head_ty p.concl) (right_of p.concl) (subst (IsFormula sig) (all_is p.concl both.0) op.concl) in
      over _ _
      (applied_formula sig (right_of p.concl) t (head_ty p.concl) of.1.0 (given_typed sig t (head_ty p.concl) both.1) of.1.1 (given_aux_free sig t (head_ty p.concl) both.1)) op.hyps) h

  ex_intro_over : (f t : Term) (p r : Sequent) → IsOver sig p → ex_intro_of sig f t p ≡ Some r → IsOver sig r
  ex_intro_over f t p r op h =
      typed (type_of_term sig t) (λ a. when ((is_given sig f (function_ty a bool_ty) && aux_free t) && is_same p.concl (applied_to f t)) (seq p.hyps (some a f))) r
      (λ a is k.
      so ((is_given sig f (function_ty a bool_ty) && aux_free t) && is_same p.concl (applied_to f t)) (seq p.hyps (some a f)) r
      (λ b. let outer = both_true (is_given sig f (function_ty a bool_ty) && aux_free t) (is_same p.concl (applied_to f t)) b in
      let inner = both_true (is_given sig f (function_ty a bool_ty)) (aux_free t) outer.0 in
      over _ _ (some_formula sig a f (own_type_fits sig has_bool t a is) (given_typed sig f (function_ty a bool_ty) inner.0) (given_aux_free sig f (function_ty a bool_ty) inner.0)) op.hyps) k) h

  choose_over : (p r : Sequent) → IsOver sig p → choose_of p ≡ Some r → IsOver sig r
  choose_over p r op h =
      so (is_some_of p.concl) (seq p.hyps (applied_to (right_of p.concl) (chosen (head_ty p.concl) (right_of p.concl)))) r
      (λ b. let of = some_property sig (head_ty p.concl) (right_of p.concl) (subst (IsFormula sig) (some_is p.concl b) op.concl) in
      over _ _
      (applied_formula sig (right_of p.concl) (chosen (head_ty p.concl) (right_of p.concl)) (head_ty p.concl) of.1.0 (chosen_typed sig (head_ty p.concl) (right_of p.concl) of.0 of.1.0) of.1.1
      (chosen_aux_free sig (head_ty p.concl) (right_of p.concl) of.1.1)) op.hyps) h

  refl_over : (t : Term) (r : Sequent) → refl_of sig t ≡ Some r → IsOver sig r
  refl_over t r h =
      typed (type_of_term sig t) (λ a. when (aux_free t) (seq set.empty (equal a t t))) r
      (λ a is k. so (aux_free t) (seq set.empty (equal a t t)) r (λ b. over _ _ (equal_formula sig a t t (own_type_fits sig has_bool t a is) is is b b) each_none) k) h

  subst_over : (f : Term) (p q r : Sequent) → IsOver sig p → IsOver sig q → subst_of sig f p q ≡ Some r → IsOver sig r
  subst_over f p q r op oq h =
      so ((is_equal p.concl && is_given sig f (function_ty (head_ty p.concl) bool_ty)) && is_same q.concl (applied_to f (left_of p.concl)))
      (seq (set.union p.hyps q.hyps) (applied_to f (right_of p.concl))) r
      (λ b. let outer = both_true (is_equal p.concl && is_given sig f (function_ty (head_ty p.concl) bool_ty)) (is_same q.concl (applied_to f (left_of p.concl))) b in
      let inner = both_true (is_equal p.concl) (is_given sig f (function_ty (head_ty p.concl) bool_ty)) outer.0 in
      let whole = subst (IsFormula sig) (equal_is p.concl inner.0) op.concl in
      let sides = equal_sides sig (head_ty p.concl) (left_of p.concl) (right_of p.concl) whole in
      over _ _
      (applied_formula sig f (right_of p.concl) (head_ty p.concl) (given_typed sig f (function_ty (head_ty p.concl) bool_ty) inner.1) sides.1.1 (given_aux_free sig f (function_ty (head_ty p.concl) bool_ty) inner.1)
      (equal_aux_free sig (head_ty p.concl) (left_of p.concl) (right_of p.concl) whole).1) (each_union p.hyps q.hyps op.hyps oq.hyps)) h

  contracted_typed : (t : Term) (a : Ty) → is_redex t ≡ true → type_of_term sig t ≡ Some a → type_of_term sig (contracted t) ≡ Some a
  contracted_typed t a h is =
      let made = redex_is t h in
      let parts = apply_parts sig (function_of t) (right_of t) a (sym (ap (type_of_term sig) made.0) ∙ is) in
      applied_typed sig (function_of t) (right_of t) parts.0 a parts.1.0 parts.1.1

  contracted_aux_free : (t : Term) → is_redex t ≡ true → IsTrue (aux_free t) → IsTrue (aux_free (contracted t))
  contracted_aux_free t h free =
      let made = redex_is t h in
      let parts = apply_parts_aux_free sig (function_of t) (right_of t) (sym (ap aux_free made.0) ∙ free) in
      applied_aux_free sig (function_of t) (right_of t) parts.0 parts.1

  beta_over : (t : Term) (r : Sequent) → beta_of sig t ≡ Some r → IsOver sig r
  beta_over t r h =
      typed (type_of_term sig t) (λ a. when (aux_free t && is_redex t) (seq set.empty (equal a t (contracted t)))) r
      (λ a is k.
      so (aux_free t && is_redex t) (seq set.empty (equal a t (contracted t))) r
      (λ b. let both = both_true (aux_free t) (is_redex t) b in
      over _ _ (equal_formula sig a t (contracted t) (own_type_fits sig has_bool t a is) is (contracted_typed t a both.1 is) both.0 (contracted_aux_free t both.1 both.0)) each_none) k) h

  abs_over : (n : ℕ) (a : Ty) (p r : Sequent) → IsOver sig p → abs_of sig n a p ≡ Some r → IsOver sig r
  abs_over n a p r op h =
      so ((is_equal p.concl && ty_fits sig.types a) && absent n a p.hyps)
      (seq p.hyps (equal (function_ty a (head_ty p.concl)) (lambda_over n a (left_of p.concl)) (lambda_over n a (right_of p.concl)))) r
      (λ b. let outer = both_true (is_equal p.concl && ty_fits sig.types a) (absent n a p.hyps) b in
      let inner = both_true (is_equal p.concl) (ty_fits sig.types a) outer.0 in
      let whole = subst (IsFormula sig) (equal_is p.concl inner.0) op.concl in
      let sides = equal_sides sig (head_ty p.concl) (left_of p.concl) (right_of p.concl) whole in
      let clean = equal_aux_free sig (head_ty p.concl) (left_of p.concl) (right_of p.concl) whole in
      let one = lambda_over_typed sig n a (head_ty p.concl) (left_of p.concl) inner.1 sides.1.0 in
      let other = lambda_over_typed sig n a (head_ty p.concl) (right_of p.concl) inner.1 sides.1.1 in
      over _ _
      (equal_formula sig (function_ty a (head_ty p.concl)) (lambda_over n a (left_of p.concl)) (lambda_over n a (right_of p.concl)) (own_type_fits sig has_bool (lambda_over n a (left_of p.concl)) (function_ty a (head_ty p.concl)) one) one
      other (lambda_over_aux_free sig n a (left_of p.concl) clean.0) (lambda_over_aux_free sig n a (right_of p.concl) clean.1)) op.hyps) h

  iff_over : (p q r : Sequent) → IsOver sig p → IsOver sig q → iff_of p q ≡ Some r → IsOver sig r
  iff_over p q r op oq h =
      so (((is_imp p.concl && is_imp q.concl) && is_same (left_of p.concl) (right_of q.concl)) && is_same (right_of p.concl) (left_of q.concl))
      (seq (set.union p.hyps q.hyps) (equal bool_ty (left_of p.concl) (right_of p.concl))) r
      (λ b. let outer = both_true ((is_imp p.concl && is_imp q.concl) && is_same (left_of p.concl) (right_of q.concl)) (is_same (right_of p.concl) (left_of q.concl)) b in
      let middle = both_true (is_imp p.concl && is_imp q.concl) (is_same (left_of p.concl) (right_of q.concl)) outer.0 in
      let sides = imp_sides p.concl (both_true (is_imp p.concl) (is_imp q.concl) middle.0).0 op.concl in
      over _ _
      (equal_formula sig bool_ty (left_of p.concl) (right_of p.concl) (bool_fits sig has_bool) (formula_typed sig (left_of p.concl) sides.0) (formula_typed sig (right_of p.concl) sides.1)
      (formula_aux_free sig (left_of p.concl) sides.0) (formula_aux_free sig (right_of p.concl) sides.1)) (each_union p.hyps q.hyps op.hyps oq.hyps)) h

  replaced_formula : (n : ℕ) (a : Ty) (t c : Term) → IsTrue (ty_fits sig.types a) → is_given sig t a ≡ true → IsFormula sig c → IsFormula sig (put_free (one_put n a t) c)
  replaced_formula n a t c fits own f =
      formula_from sig (put_free (one_put n a t) c) (type_replaced sig n a t fits (given_typed sig t a own) c [] ∙ formula_typed sig c f)
      (aux_free_replaced (one_put n a t) (aux_free_one_put n a t (given_aux_free sig t a own)) c (formula_aux_free sig c f))

  inst_over : (n : ℕ) (a : Ty) (t : Term) (p r : Sequent) → IsOver sig p → inst_of sig n a t p ≡ Some r → IsOver sig r
  inst_over n a t p r op h =
      so (ty_fits sig.types a && is_given sig t a) (seq (image (put_free (one_put n a t)) p.hyps) (put_free (one_put n a t) p.concl)) r
      (λ b. let both = both_true (ty_fits sig.types a) (is_given sig t a) b in
      over _ _ (replaced_formula n a t p.concl both.0 both.1 op.concl)
      (λ y k. let from = holds_image (put_free (one_put n a t)) p.hyps y k in subst (IsFormula sig) from.1.1 (replaced_formula n a t from.0 both.0 both.1 (op.hyps from.0 from.1.0)))) h

  -- what is made of earlier sequents
  one_over : (o : Option Sequent) (f : Sequent → Option Sequent) (r : Sequent) → ((p : Sequent) → o ≡ Some p → IsOver sig p) → ((p : Sequent) → IsOver sig p → f p ≡ Some r → IsOver sig r) → from_one o f ≡ Some r → IsOver sig r
  one_over None f r each rule h = cc
  one_over (Some p) f r each rule h = rule p (each p refl) h

each_of : {X : Type 0} (p : X → Bool) (xs : List X) (i : ℕ) (x : X) → list_all p xs ≡ true → slice_get xs i ≡ Some x → p x ≡ true
each_of p [] i x h e = cc
each_of p (y ∷ ys) zero x h e = let same : y ≡ x = cc in subst (λ z. p z ≡ true) same (both_true (p y) (list_all p ys) h).0
each_of p (y ∷ ys) (suc i) x h e = each_of p ys i x (both_true (p y) (list_all p ys) h).1 e

module _ (env : Env) (earlier : List Sequent) (are : AreOver env.sig earlier) where
  fact_over : (o : Option Term) (r : Sequent) → ((t : Term) → o ≡ Some t → IsFormula env.sig t) → from_fact o ≡ Some r → IsOver env.sig r
  fact_over None r each h = cc
  fact_over (Some t) r each h = given env.sig env.has_bool (seq set.empty t) r (over env.sig env.has_bool set.empty t (each t refl) (each_none env.sig env.has_bool)) h

  one : (a : ℕ) (f : Sequent → Option Sequent) (r : Sequent) → ((p : Sequent) → IsOver env.sig p → f p ≡ Some r → IsOver env.sig r) → from_one (slice_get earlier a) f ≡ Some r → IsOver env.sig r
  one a f r rule h = one_over env.sig env.has_bool (slice_get earlier a) f r (λ p e. are a p e) rule h

  two : (a b : ℕ) (f : Sequent → Sequent → Option Sequent) (r : Sequent) → ((p q : Sequent) → IsOver env.sig p → IsOver env.sig q → f p q ≡ Some r → IsOver env.sig r) →
      from_two (slice_get earlier a) (slice_get earlier b) f ≡ Some r → IsOver env.sig r
  two a b f r rule h = one a (λ p. from_one (slice_get earlier b) (f p)) r (λ p op k. one b (f p) r (λ q oq m. rule p q op oq m) k) h

  three : (a b c : ℕ) (f : Sequent → Sequent → Sequent → Option Sequent) (r : Sequent) → ((p q s : Sequent) → IsOver env.sig p → IsOver env.sig q → IsOver env.sig s → f p q s ≡ Some r → IsOver env.sig r) →
      from_three (slice_get earlier a) (slice_get earlier b) (slice_get earlier c) f ≡ Some r → IsOver env.sig r
  three a b c f r rule h = one a (λ p. from_two (slice_get earlier b) (slice_get earlier c) (f p)) r (λ p op k. two b c (f p) r (λ q s oq os m. rule p q s op oq os m) k) h

  -- the sequent of a step over sequents over the signature is over it
  pub sequent_over : (s : Step) (r : Sequent) → sequent env s earlier ≡ Some r → IsOver env.sig r
  sequent_over (step.Fact n) r h = fact_over (slice_get env.facts n) r (λ t e. sentence_formula env.sig t (each_of (is_sentence env.sig) env.facts n t env.facts_are_sentences e)) h
  sequent_over (step.Assume t) r h = assume_over env.sig env.has_bool t r h
  sequent_over (step.ImpIntro t a) r h = one a.0 (imp_intro_of env.sig t) r (λ p op k. imp_intro_over env.sig env.has_bool t p r op k) h
  sequent_over (step.ImpElim ab a) r h = two ab.0 a.0 imp_elim_of r (λ p q op oq k. imp_elim_over env.sig env.has_bool p q r op oq k) h
  sequent_over (step.AndIntro a b) r h = two a.0 b.0 and_intro_of r (λ p q op oq k. and_intro_over env.sig env.has_bool p q r op oq k) h
  sequent_over (step.AndLeft ab) r h = one ab.0 and_left_of r (λ p op k. and_left_over env.sig env.has_bool p r op k) h
  sequent_over (step.AndRight ab) r h = one ab.0 and_right_of r (λ p op k. and_right_over env.sig env.has_bool p r op k) h
  sequent_over (step.OrLeft t a) r h = one a.0 (or_left_of env.sig t) r (λ p op k. or_left_over env.sig env.has_bool t p r op k) h
  sequent_over (step.OrRight t b) r h = one b.0 (or_right_of env.sig t) r (λ p op k. or_right_over env.sig env.has_bool t p r op k) h
  sequent_over (step.OrElim ab l m) r h = three ab.0 l.0 m.0 or_elim_of r (λ p q s op oq os k. or_elim_over env.sig env.has_bool p q s r op oq os k) h
  sequent_over (step.NotIntro t a) r h = one a.0 (not_intro_of env.sig t) r (λ p op k. not_intro_over env.sig env.has_bool t p r op k) h
  sequent_over (step.NotElim na a) r h = two na.0 a.0 not_elim_of r (λ p q op oq k. not_elim_over env.sig env.has_bool p q r op oq k) h
  sequent_over step.TrueIntro r h =
      given env.sig env.has_bool (seq set.empty verum) r (over env.sig env.has_bool set.empty verum (constant_formula env.sig konst.True refl refl) (each_none env.sig env.has_bool)) h
  sequent_over (step.Classical t a) r h = one a.0 (classical_of env.sig t) r (λ p op k. classical_over env.sig env.has_bool t p r op k) h
  sequent_over (step.AllIntro n ty a) r h = one a.0 (all_intro_of env.sig n ty) r (λ p op k. all_intro_over env.sig env.has_bool n ty p r op k) h
  sequent_over (step.AllElim t a) r h = one a.0 (all_elim_of env.sig t) r (λ p op k. all_elim_over env.sig env.has_bool t p r op k) h
  sequent_over (step.ExIntro f t a) r h = one a.0 (ex_intro_of env.sig f t) r (λ p op k. ex_intro_over env.sig env.has_bool f t p r op k) h
  sequent_over (step.Choose a) r h = one a.0 choose_of r (λ p op k. choose_over env.sig env.has_bool p r op k) h
  sequent_over (step.Refl t) r h = refl_over env.sig env.has_bool t r h
  sequent_over (step.Subst f eq a) r h = two eq.0 a.0 (subst_of env.sig f) r (λ p q op oq k. subst_over env.sig env.has_bool f p q r op oq k) h
  sequent_over (step.Beta t) r h = beta_over env.sig env.has_bool t r h
  sequent_over (step.Abs n ty a) r h = one a.0 (abs_of env.sig n ty) r (λ p op k. abs_over env.sig env.has_bool n ty p r op k) h
  sequent_over (step.Iff ab ba) r h = two ab.0 ba.0 iff_of r (λ p q op oq k. iff_over env.sig env.has_bool p q r op oq k) h
  sequent_over (step.Inst n ty t a) r h = one a.0 (inst_of env.sig n ty t) r (λ p op k. inst_over env.sig env.has_bool n ty t p r op k) h

-- ---- derivations
onto_over : (env : Env) (now : List Sequent → Option (List Sequent)) (done seqs : List Sequent) (o : Option Sequent) → onto now done o ≡ Some seqs →
    (q : Sequent) × ((o ≡ Some q) × (now (done ++ q ∷ []) ≡ Some seqs))
onto_over env now done seqs None h = cc
onto_over env now done seqs (Some q) h = (q, (refl, h))

push_over : (sig : Sig) (done : List Sequent) (q : Sequent) → AreOver sig done → IsOver sig q → AreOver sig (done ++ q ∷ [])
push_over sig [] q are one zero p e = let same : q ≡ p = cc in subst (IsOver sig) same one
push_over sig [] q are one (suc i) p e = cc
push_over sig (d ∷ done) q are one zero p e = are zero p e
push_over sig (d ∷ done) q are one (suc i) p e = push_over sig done q (λ j r k. are (suc j) r k) one i p e

derived_from_over : (env : Env) (steps : List Step) (done seqs : List Sequent) → AreOver env.sig done → derived_from env steps done ≡ Some seqs → AreOver env.sig seqs
derived_from_over env [] done seqs are h = let same : done ≡ seqs = cc in subst (AreOver env.sig) same are
derived_from_over env (s ∷ more) done seqs are h =
    let first = onto_over env (derived_from env more) done seqs (sequent env s done) h in
    derived_from_over env more (done ++ first.0 ∷ []) seqs (push_over env.sig done first.0 are (sequent_over env done are s first.0 first.1.0)) first.1.1

-- every sequent of a derivation is over the signature
pub derived_over : (env : Env) (steps : List Step) (seqs : List Sequent) → derived env steps ≡ Some seqs → AreOver env.sig seqs
derived_over env steps seqs h = derived_from_over env steps [] seqs (λ i q e. cc) h
