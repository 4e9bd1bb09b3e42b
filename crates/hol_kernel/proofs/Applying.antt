-- The sequent that each rule gives where its conditions hold.
use Rattle.std.proofs.Common.{◌≡◌, ℕ, ◌<◌, List, length, Some, Bool, true, false, ◌&&◌, IsTrue, refl, sym, ◌∙◌, ap}
use Rattle.std.specs.Prelude.{Option}
use Rattle.std.specs.FinSet as set
use Rattle.hol_terms.specs.declared.ty.Ty.{Ty}
use Rattle.hol_terms.specs.declared.env.Env.{Env}
use Rattle.hol_terms.specs.declared.term.Term.{Term}
use Rattle.hol_terms.specs.Types.{bool_ty, function_ty, ty_fits}
use Rattle.hol_terms.specs.Typing.{type_of_term}
use Rattle.hol_terms.specs.Substitution.{put_free, one_put}
use Rattle.hol_terms.specs.Formulas.{is_formula, IsFormula, aux_free}
use Rattle.hol_terms.proofs.Both.{and_true}
use Rattle.hyp_sets.specs.Order.{is_same}
use Rattle.hyp_sets.specs.Sets.{only, image, absent}
use Rattle.hyp_sets.proofs.OrderLaws.{equal_tied}
use Rattle.kernel_rules.specs.declared.step.ThmId.{ThmId}
use Rattle.kernel_rules.specs.declared.step.Step.TheVariants as step
use Rattle.kernel_rules.specs.declared.sequent.Sequent.{Sequent}
use Rattle.kernel_rules.specs.Connectives.{lambda_over, verum, falsum, neg, conj, disj, imp, equal, all, some, chosen, left_of, right_of, head_ty, is_conj, is_disj, is_imp, is_equal, is_neg, is_all, is_some_of, is_falsum, is_redex, applied_to, contracted}
use Rattle.kernel_rules.specs.Rules.{seq, when, with_type, is_given, imp_intro_of, imp_elim_of, and_intro_of, and_left_of, and_right_of, or_left_of, or_right_of, or_elim_of, not_intro_of, not_elim_of, classical_of, all_intro_of, all_elim_of, ex_intro_of, choose_of, subst_of, abs_of, iff_of, inst_of}
use Rattle.kernel_rules.specs.Derivations.{sequent}
use Rattle.kernel_rules.proofs.Parts.{right_of-apply, left_of-two, is_imp-imp, is_neg-neg, is_falsum-falsum}
use Rattle.kernel_rules.proofs.GivenTerms.{given_typed, given_aux_free}
use Rattle.hol_kernel.specs.Logs.{seq_at, fact_at}
use Rattle.hol_kernel.specs.Conditions.{own_ty, IsGiven, IsProperty, IsImp}
use Rattle.hol_kernel.proofs.Places.{fact_got, one_at, two_at, three_at}

when_so : (b : Bool) (q : Sequent) → IsTrue b → when b q ≡ Some q
when_so true q h = refl
when_so false q h = cc

typed_so : (o : Option Ty) (a : Ty) (f : Ty → Option Sequent) → o ≡ Some a → with_type o f ≡ f a
typed_so o a f e = ap (λ o. with_type o f) e

module _ (env : Env) (seqs : List Sequent) where
  pub fact_made : (n : ℕ) → n < length env.facts → sequent env (step.Fact n) seqs ≡ Some (seq set.empty (fact_at env n))
  fact_made n h = fact_got env n h

  pub assume_made : (t : Term) → IsFormula env.sig t → sequent env (step.Assume t) seqs ≡ Some (seq (only t) t)
  assume_made t h = when_so (is_formula env.sig t) (seq (only t) t) h

  pub imp_intro_made : (t : Term) (a : ThmId) → IsFormula env.sig t → a.0 < length seqs →
      sequent env (step.ImpIntro t a) seqs ≡ Some (seq (set.remove (seq_at seqs a.0).hyps t) (imp t (seq_at seqs a.0).concl))
  imp_intro_made t a ht ha = one_at seqs a.0 (imp_intro_of env.sig t) ha ∙ when_so (is_formula env.sig t) _ ht

  pub imp_elim_made : (ab a : ThmId) → ab.0 < length seqs → a.0 < length seqs → IsImp (seq_at seqs ab.0).concl (seq_at seqs a.0).concl →
      sequent env (step.ImpElim ab a) seqs ≡ Some (seq (set.union (seq_at seqs ab.0).hyps (seq_at seqs a.0).hyps) (right_of (seq_at seqs ab.0).concl))
  imp_elim_made ab a hab ha fits =
      two_at seqs ab.0 a.0 imp_elim_of hab ha
      ∙ when_so (is_imp (seq_at seqs ab.0).concl && is_same (left_of (seq_at seqs ab.0).concl) (seq_at seqs a.0).concl) _
      (and_true (is_imp (seq_at seqs ab.0).concl) (is_same (left_of (seq_at seqs ab.0).concl) (seq_at seqs a.0).concl) (ap is_imp fits ∙ is_imp-imp _ _) (equal_tied _ _ (ap left_of fits ∙ left_of-two _ _ _)))

  pub and_intro_made : (a b : ThmId) → a.0 < length seqs → b.0 < length seqs →
      sequent env (step.AndIntro a b) seqs ≡ Some (seq (set.union (seq_at seqs a.0).hyps (seq_at seqs b.0).hyps) (conj (seq_at seqs a.0).concl (seq_at seqs b.0).concl))
  and_intro_made a b ha hb = two_at seqs a.0 b.0 and_intro_of ha hb

  pub and_left_made : (ab : ThmId) → ab.0 < length seqs → IsTrue (is_conj (seq_at seqs ab.0).concl) →
      sequent env (step.AndLeft ab) seqs ≡ Some (seq (seq_at seqs ab.0).hyps (left_of (seq_at seqs ab.0).concl))
  and_left_made ab h fits = one_at seqs ab.0 and_left_of h ∙ when_so (is_conj (seq_at seqs ab.0).concl) _ fits

  pub and_right_made : (ab : ThmId) → ab.0 < length seqs → IsTrue (is_conj (seq_at seqs ab.0).concl) →
      sequent env (step.AndRight ab) seqs ≡ Some (seq (seq_at seqs ab.0).hyps (right_of (seq_at seqs ab.0).concl))
  and_right_made ab h fits = one_at seqs ab.0 and_right_of h ∙ when_so (is_conj (seq_at seqs ab.0).concl) _ fits

  pub or_left_made : (t : Term) (a : ThmId) → IsFormula env.sig t → a.0 < length seqs →
      sequent env (step.OrLeft t a) seqs ≡ Some (seq (seq_at seqs a.0).hyps (disj (seq_at seqs a.0).concl t))
  or_left_made t a ht ha = one_at seqs a.0 (or_left_of env.sig t) ha ∙ when_so (is_formula env.sig t) _ ht

  pub or_right_made : (t : Term) (b : ThmId) → IsFormula env.sig t → b.0 < length seqs →
      sequent env (step.OrRight t b) seqs ≡ Some (seq (seq_at seqs b.0).hyps (disj t (seq_at seqs b.0).concl))
  or_right_made t b ht hb = one_at seqs b.0 (or_right_of env.sig t) hb ∙ when_so (is_formula env.sig t) _ ht

  pub or_elim_made : (ab l r : ThmId) → ab.0 < length seqs → l.0 < length seqs → r.0 < length seqs → IsTrue (is_disj (seq_at seqs ab.0).concl) → (seq_at seqs l.0).concl ≡ (seq_at seqs r.0).concl →
      sequent env (step.OrElim ab l r) seqs
      ≡ Some (seq (set.union (set.union (seq_at seqs ab.0).hyps (set.remove (seq_at seqs l.0).hyps (left_of (seq_at seqs ab.0).concl))) (set.remove (seq_at seqs r.0).hyps (right_of (seq_at seqs ab.0).concl)))
      (seq_at seqs l.0).concl)
  or_elim_made ab l r hab hl hr fits alike =
      three_at seqs ab.0 l.0 r.0 or_elim_of hab hl hr
      ∙ when_so (is_disj (seq_at seqs ab.0).concl && is_same (seq_at seqs l.0).concl (seq_at seqs r.0).concl) _
      (and_true (is_disj (seq_at seqs ab.0).concl) (is_same (seq_at seqs l.0).concl (seq_at seqs r.0).concl) fits (equal_tied _ _ alike))

  denial : (t : Term) (a : ThmId) → IsFormula env.sig t → (seq_at seqs a.0).concl ≡ falsum → IsTrue (is_formula env.sig t && is_falsum (seq_at seqs a.0).concl)
  denial t a ht fits = and_true (is_formula env.sig t) (is_falsum (seq_at seqs a.0).concl) ht (ap is_falsum fits ∙ is_falsum-falsum)

  pub not_intro_made : (t : Term) (a : ThmId) → IsFormula env.sig t → a.0 < length seqs → (seq_at seqs a.0).concl ≡ falsum →
      sequent env (step.NotIntro t a) seqs ≡ Some (seq (set.remove (seq_at seqs a.0).hyps t) (neg t))
  not_intro_made t a ht ha fits = one_at seqs a.0 (not_intro_of env.sig t) ha ∙ when_so (is_formula env.sig t && is_falsum (seq_at seqs a.0).concl) _ (denial t a ht fits)

  pub not_elim_made : (na a : ThmId) → na.0 < length seqs → a.0 < length seqs → (seq_at seqs na.0).concl ≡ neg (seq_at seqs a.0).concl →
      sequent env (step.NotElim na a) seqs ≡ Some (seq (set.union (seq_at seqs na.0).hyps (seq_at seqs a.0).hyps) falsum)
  not_elim_made na a hna ha fits =
      two_at seqs na.0 a.0 not_elim_of hna ha
      ∙ when_so (is_neg (seq_at seqs na.0).concl && is_same (right_of (seq_at seqs na.0).concl) (seq_at seqs a.0).concl) _
      (and_true (is_neg (seq_at seqs na.0).concl) (is_same (right_of (seq_at seqs na.0).concl) (seq_at seqs a.0).concl) (ap is_neg fits ∙ is_neg-neg _) (equal_tied _ _ (ap right_of fits ∙ right_of-apply _ _)))

  pub true_intro_made : sequent env step.TrueIntro seqs ≡ Some (seq set.empty verum)
  true_intro_made = refl

  pub classical_made : (t : Term) (a : ThmId) → IsFormula env.sig t → a.0 < length seqs → (seq_at seqs a.0).concl ≡ falsum →
      sequent env (step.Classical t a) seqs ≡ Some (seq (set.remove (seq_at seqs a.0).hyps (neg t)) t)
  classical_made t a ht ha fits = one_at seqs a.0 (classical_of env.sig t) ha ∙ when_so (is_formula env.sig t && is_falsum (seq_at seqs a.0).concl) _ (denial t a ht fits)

  pub all_intro_made : (n : ℕ) (ty : Ty) (a : ThmId) → IsTrue (ty_fits env.sig.types ty) → a.0 < length seqs → IsTrue (absent n ty (seq_at seqs a.0).hyps) →
      sequent env (step.AllIntro n ty a) seqs ≡ Some (seq (seq_at seqs a.0).hyps (all ty (lambda_over n ty (seq_at seqs a.0).concl)))
  all_intro_made n ty a hty ha lacks =
      one_at seqs a.0 (all_intro_of env.sig n ty) ha
      ∙ when_so (ty_fits env.sig.types ty && absent n ty (seq_at seqs a.0).hyps) _ (and_true (ty_fits env.sig.types ty) (absent n ty (seq_at seqs a.0).hyps) hty lacks)

  pub all_elim_made : (t : Term) (a : ThmId) → a.0 < length seqs → IsTrue (is_all (seq_at seqs a.0).concl) → IsGiven env.sig t (head_ty (seq_at seqs a.0).concl) →
      sequent env (step.AllElim t a) seqs ≡ Some (seq (seq_at seqs a.0).hyps (applied_to (right_of (seq_at seqs a.0).concl) t))
  all_elim_made t a ha fits given =
      one_at seqs a.0 (all_elim_of env.sig t) ha
      ∙ when_so (is_all (seq_at seqs a.0).concl && is_given env.sig t (head_ty (seq_at seqs a.0).concl)) _
      (and_true (is_all (seq_at seqs a.0).concl) (is_given env.sig t (head_ty (seq_at seqs a.0).concl)) fits given)

  own_typed : (t : Term) → IsGiven env.sig t (own_ty env.sig t) → type_of_term env.sig t ≡ Some (own_ty env.sig t)
  own_typed t given = given_typed env.sig t (own_ty env.sig t) given

  own_aux_free : (t : Term) → IsGiven env.sig t (own_ty env.sig t) → IsTrue (aux_free t)
  own_aux_free t given = given_aux_free env.sig t (own_ty env.sig t) given

  pub ex_intro_made : (f t : Term) (a : ThmId) → IsGiven env.sig t (own_ty env.sig t) → IsProperty env.sig f (own_ty env.sig t) → a.0 < length seqs → (seq_at seqs a.0).concl ≡ applied_to f t →
      sequent env (step.ExIntro f t a) seqs ≡ Some (seq (seq_at seqs a.0).hyps (some (own_ty env.sig t) f))
  ex_intro_made f t a given property ha fits =
      one_at seqs a.0 (ex_intro_of env.sig f t) ha ∙ typed_so (type_of_term env.sig t) (own_ty env.sig t) _ (own_typed t given)
      ∙ when_so ((is_given env.sig f (function_ty (own_ty env.sig t) bool_ty) && aux_free t) && is_same (seq_at seqs a.0).concl (applied_to f t)) _
      (and_true (is_given env.sig f (function_ty (own_ty env.sig t) bool_ty) && aux_free t) (is_same (seq_at seqs a.0).concl (applied_to f t))
      (and_true (is_given env.sig f (function_ty (own_ty env.sig t) bool_ty)) (aux_free t) property (own_aux_free t given)) (equal_tied _ _ fits))

  pub choose_made : (a : ThmId) → a.0 < length seqs → IsTrue (is_some_of (seq_at seqs a.0).concl) →
      sequent env (step.Choose a) seqs
      ≡ Some (seq (seq_at seqs a.0).hyps (applied_to (right_of (seq_at seqs a.0).concl) (chosen (head_ty (seq_at seqs a.0).concl) (right_of (seq_at seqs a.0).concl))))
  choose_made a ha fits = one_at seqs a.0 choose_of ha ∙ when_so (is_some_of (seq_at seqs a.0).concl) _ fits

  pub refl_made : (t : Term) → IsGiven env.sig t (own_ty env.sig t) → sequent env (step.Refl t) seqs ≡ Some (seq set.empty (equal (own_ty env.sig t) t t))
  refl_made t given = typed_so (type_of_term env.sig t) (own_ty env.sig t) _ (own_typed t given) ∙ when_so (aux_free t) _ (own_aux_free t given)

  pub subst_made : (f : Term) (eq a : ThmId) → eq.0 < length seqs → a.0 < length seqs → IsTrue (is_equal (seq_at seqs eq.0).concl) → IsProperty env.sig f (head_ty (seq_at seqs eq.0).concl) →
      (seq_at seqs a.0).concl ≡ applied_to f (left_of (seq_at seqs eq.0).concl) →
      sequent env (step.Subst f eq a) seqs ≡ Some (seq (set.union (seq_at seqs eq.0).hyps (seq_at seqs a.0).hyps) (applied_to f (right_of (seq_at seqs eq.0).concl)))
  subst_made f eq a heq ha is property fits =
      two_at seqs eq.0 a.0 (subst_of env.sig f) heq ha
      ∙ when_so ((is_equal (seq_at seqs eq.0).concl && is_given env.sig f (function_ty (head_ty (seq_at seqs eq.0).concl) bool_ty)) && is_same (seq_at seqs a.0).concl (applied_to f (left_of (seq_at seqs eq.0).concl))) _
      (and_true (is_equal (seq_at seqs eq.0).concl && is_given env.sig f (function_ty (head_ty (seq_at seqs eq.0).concl) bool_ty)) (is_same (seq_at seqs a.0).concl (applied_to f (left_of (seq_at seqs eq.0).concl)))
      (and_true (is_equal (seq_at seqs eq.0).concl) (is_given env.sig f (function_ty (head_ty (seq_at seqs eq.0).concl) bool_ty)) is property) (equal_tied _ _ fits))

  pub beta_made : (t : Term) → IsGiven env.sig t (own_ty env.sig t) → IsTrue (is_redex t) → sequent env (step.Beta t) seqs ≡ Some (seq set.empty (equal (own_ty env.sig t) t (contracted t)))
  beta_made t given redex =
      typed_so (type_of_term env.sig t) (own_ty env.sig t) _ (own_typed t given) ∙ when_so (aux_free t && is_redex t) _ (and_true (aux_free t) (is_redex t) (own_aux_free t given) redex)

  pub abs_made : (n : ℕ) (ty : Ty) (a : ThmId) → IsTrue (ty_fits env.sig.types ty) → a.0 < length seqs → IsTrue (is_equal (seq_at seqs a.0).concl) → IsTrue (absent n ty (seq_at seqs a.0).hyps) →
      sequent env (step.Abs n ty a) seqs
      ≡ Some (seq (seq_at seqs a.0).hyps (equal (function_ty ty (head_ty (seq_at seqs a.0).concl)) (lambda_over n ty (left_of (seq_at seqs a.0).concl)) (lambda_over n ty (right_of (seq_at seqs a.0).concl))))
  abs_made n ty a hty ha is lacks =
      one_at seqs a.0 (abs_of env.sig n ty) ha
      ∙ when_so ((is_equal (seq_at seqs a.0).concl && ty_fits env.sig.types ty) && absent n ty (seq_at seqs a.0).hyps) _
      (and_true (is_equal (seq_at seqs a.0).concl && ty_fits env.sig.types ty) (absent n ty (seq_at seqs a.0).hyps) (and_true (is_equal (seq_at seqs a.0).concl) (ty_fits env.sig.types ty) is hty) lacks)

  pub iff_made : (ab ba : ThmId) → ab.0 < length seqs → ba.0 < length seqs → IsTrue (is_imp (seq_at seqs ab.0).concl) →
      (seq_at seqs ba.0).concl ≡ imp (right_of (seq_at seqs ab.0).concl) (left_of (seq_at seqs ab.0).concl) →
      sequent env (step.Iff ab ba) seqs ≡ Some (seq (set.union (seq_at seqs ab.0).hyps (seq_at seqs ba.0).hyps) (equal bool_ty (left_of (seq_at seqs ab.0).concl) (right_of (seq_at seqs ab.0).concl)))
  iff_made ab ba hab hba is converse =
      let p : Term = (seq_at seqs ab.0).concl in
      let q : Term = (seq_at seqs ba.0).concl in
      two_at seqs ab.0 ba.0 iff_of hab hba
      ∙ when_so (((is_imp p && is_imp q) && is_same (left_of p) (right_of q)) && is_same (right_of p) (left_of q)) _
      (and_true ((is_imp p && is_imp q) && is_same (left_of p) (right_of q)) (is_same (right_of p) (left_of q))
      (and_true (is_imp p && is_imp q) (is_same (left_of p) (right_of q)) (and_true (is_imp p) (is_imp q) is (ap is_imp converse ∙ is_imp-imp _ _))
      (equal_tied _ _ (sym (ap right_of converse ∙ right_of-apply _ _)))) (equal_tied _ _ (sym (ap left_of converse ∙ left_of-two _ _ _))))

  pub inst_made : (n : ℕ) (ty : Ty) (t : Term) (a : ThmId) → IsTrue (ty_fits env.sig.types ty) → IsGiven env.sig t ty → a.0 < length seqs →
      sequent env (step.Inst n ty t a) seqs ≡ Some (seq (image (put_free (one_put n ty t)) (seq_at seqs a.0).hyps) (put_free (one_put n ty t) (seq_at seqs a.0).concl))
  inst_made n ty t a hty given ha =
      one_at seqs a.0 (inst_of env.sig n ty t) ha ∙ when_so (ty_fits env.sig.types ty && is_given env.sig t ty) _ (and_true (ty_fits env.sig.types ty) (is_given env.sig t ty) hty given)
