-- Derivations keep truth.
use Rattle.std.proofs.Common.{◌≡◌, ℕ, zero, suc, ◌-◌, refl, subst, List, [], ◌∷◌, ◌++◌, Some, None, slice_get, length}
use Rattle.std.specs.Prelude.{Option, All, Contains, IfSome}
use Rattle.std.specs.FinSet as set
use Rattle.std.proofs.lemmas.List.Elements.{All-nil, All-cons, All-head, All-tail, All-contains, All-weaker}
use Rattle.hol_terms.specs.declared.env.Env.{Env}
use Rattle.hol_terms.specs.declared.term.Term.{Term}
use Rattle.hyp_sets.proofs.Members.{none_held}
use Rattle.kernel_rules.specs.declared.step.Step.{Step}
use Rattle.kernel_rules.specs.declared.step.Step.TheVariants as step
use Rattle.kernel_rules.specs.declared.sequent.Sequent.{Sequent}
use Rattle.kernel_rules.specs.Rules.{seq, imp_intro_of, imp_elim_of, and_intro_of, and_left_of, and_right_of, or_left_of, or_right_of, or_elim_of, not_intro_of, not_elim_of, classical_of, all_intro_of, all_elim_of, ex_intro_of, choose_of, subst_of, abs_of, iff_of, inst_of}
use Rattle.kernel_rules.specs.Derivations.{from_fact, from_one, from_two, from_three, sequent, onto, derived_from, derived, leaf, leaves}
use Rattle.kernel_rules.specs.Formulas.{IsOver, AreOver}
use Rattle.kernel_rules.proofs.OverSignature.{sequent_over}
use Rattle.model_truth.specs.declared.model.Model.{Model}
use Rattle.model_truth.specs.Sizes.{IsModel}
use Rattle.model_truth.specs.Truth.{IsTrueIn, AreTrueIn, IsValid, FactIsTrue, Refutes, HasNoProof}
use Rattle.model_truth.proofs.Sound.{given, assume_true, imp_intro_true, imp_elim_true, and_intro_true, and_left_true, and_right_true, or_left_true, or_right_true, or_elim_true, not_intro_true, not_elim_true, true_intro_true, classical_true, all_intro_true, all_elim_true, ex_intro_true, choose_true, refl_true, subst_true, beta_true, abs_true, iff_true, inst_true}

module _ (env : Env) (m : Model) (is : IsModel env.sig m) where
  -- ---- one step
  module _ (earlier : List Sequent) (are : AreOver env.sig earlier) (hold : AreTrueIn env.sig m earlier) where
    fact_true : (o : Option Term) (r : Sequent) → IfSome o (IsValid env.sig m) → from_fact o ≡ Some r → IsTrueIn env.sig m r
    fact_true None r each h = cc
    fact_true (Some t) r each h = given env.sig m is env.has_bool (seq set.empty t) r (λ v range _. each v range) h

    one_at : (o : Option Sequent) (f : Sequent → Option Sequent) (r : Sequent) → ((p : Sequent) → o ≡ Some p → IsOver env.sig p × IsTrueIn env.sig m p) →
        ((p : Sequent) → IsOver env.sig p → IsTrueIn env.sig m p → f p ≡ Some r → IsTrueIn env.sig m r) → from_one o f ≡ Some r → IsTrueIn env.sig m r
    one_at None f r each rule h = cc
    one_at (Some p) f r each rule h = rule p (each p refl).0 (each p refl).1 h

    one : (a : ℕ) (f : Sequent → Option Sequent) (r : Sequent) → ((p : Sequent) → IsOver env.sig p → IsTrueIn env.sig m p → f p ≡ Some r → IsTrueIn env.sig m r) →
        from_one (slice_get earlier a) f ≡ Some r → IsTrueIn env.sig m r
    one a f r rule h = one_at (slice_get earlier a) f r (λ p e. (are a p e, hold a p e)) rule h

    two : (a b : ℕ) (f : Sequent → Sequent → Option Sequent) (r : Sequent) →
        ((p q : Sequent) → IsOver env.sig p → IsOver env.sig q → IsTrueIn env.sig m p → IsTrueIn env.sig m q → f p q ≡ Some r → IsTrueIn env.sig m r) →
        from_two (slice_get earlier a) (slice_get earlier b) f ≡ Some r → IsTrueIn env.sig m r
    two a b f r rule h = one a (λ p. from_one (slice_get earlier b) (f p)) r (λ p op tp k. one b (f p) r (λ q oq tq l. rule p q op oq tp tq l) k) h

    three : (a b c : ℕ) (f : Sequent → Sequent → Sequent → Option Sequent) (r : Sequent) →
        ((p q s : Sequent) → IsOver env.sig p → IsTrueIn env.sig m p → IsTrueIn env.sig m q → IsTrueIn env.sig m s → f p q s ≡ Some r → IsTrueIn env.sig m r) →
        from_three (slice_get earlier a) (slice_get earlier b) (slice_get earlier c) f ≡ Some r → IsTrueIn env.sig m r
    three a b c f r rule h =
        one a (λ p. from_two (slice_get earlier b) (slice_get earlier c) (f p)) r (λ p op tp k. two b c (f p) r (λ q s _ _ tq ts l. rule p q s op tp tq ts l) k) h

    pub sequent_true : (s : Step) (r : Sequent) → All (FactIsTrue env m) (leaf s) → sequent env s earlier ≡ Some r → IsTrueIn env.sig m r
    sequent_true (step.Fact n) r each h = fact_true (slice_get env.facts n) r (All-head (FactIsTrue env m) n [] each) h
    sequent_true (step.Assume t) r each h = assume_true env.sig m is env.has_bool t r h
    sequent_true (step.ImpIntro t a) r each h = one a.0 (imp_intro_of env.sig t) r (λ p op tp k. imp_intro_true env.sig m is env.has_bool t p r op tp k) h
    sequent_true (step.ImpElim ab a) r each h = two ab.0 a.0 imp_elim_of r (λ p q op oq tp tq k. imp_elim_true env.sig m is env.has_bool p q r op tp tq k) h
    sequent_true (step.AndIntro a b) r each h = two a.0 b.0 and_intro_of r (λ p q op oq tp tq k. and_intro_true env.sig m is env.has_bool p q r op oq tp tq k) h
    sequent_true (step.AndLeft ab) r each h = one ab.0 and_left_of r (λ p op tp k. and_left_true env.sig m is env.has_bool p r op tp k) h
    sequent_true (step.AndRight ab) r each h = one ab.0 and_right_of r (λ p op tp k. and_right_true env.sig m is env.has_bool p r op tp k) h
    sequent_true (step.OrLeft t a) r each h = one a.0 (or_left_of env.sig t) r (λ p op tp k. or_left_true env.sig m is env.has_bool t p r op tp k) h
    sequent_true (step.OrRight t b) r each h = one b.0 (or_right_of env.sig t) r (λ p op tp k. or_right_true env.sig m is env.has_bool t p r op tp k) h
    sequent_true (step.OrElim ab l s) r each h = three ab.0 l.0 s.0 or_elim_of r (λ p q w op tp tq tw k. or_elim_true env.sig m is env.has_bool p q w r op tp tq tw k) h
    sequent_true (step.NotIntro t a) r each h = one a.0 (not_intro_of env.sig t) r (λ p op tp k. not_intro_true env.sig m is env.has_bool t p r tp k) h
    sequent_true (step.NotElim na a) r each h = two na.0 a.0 not_elim_of r (λ p q op oq tp tq k. not_elim_true env.sig m is env.has_bool p q r op oq tp tq k) h
    sequent_true step.TrueIntro r each h = true_intro_true env.sig m is env.has_bool r h
    sequent_true (step.Classical t a) r each h = one a.0 (classical_of env.sig t) r (λ p op tp k. classical_true env.sig m is env.has_bool t p r tp k) h
    sequent_true (step.AllIntro n ty a) r each h = one a.0 (all_intro_of env.sig n ty) r (λ p op tp k. all_intro_true env.sig m is env.has_bool n ty p r op tp k) h
    sequent_true (step.AllElim t a) r each h = one a.0 (all_elim_of env.sig t) r (λ p op tp k. all_elim_true env.sig m is env.has_bool t p r op tp k) h
    sequent_true (step.ExIntro f t a) r each h = one a.0 (ex_intro_of env.sig f t) r (λ p op tp k. ex_intro_true env.sig m is env.has_bool f t p r tp k) h
    sequent_true (step.Choose a) r each h = one a.0 choose_of r (λ p op tp k. choose_true env.sig m is env.has_bool p r op tp k) h
    sequent_true (step.Refl t) r each h = refl_true env.sig m is env.has_bool t r h
    sequent_true (step.Subst f eq a) r each h = two eq.0 a.0 (subst_of env.sig f) r (λ p q op oq tp tq k. subst_true env.sig m is env.has_bool f p q r op tp tq k) h
    sequent_true (step.Beta t) r each h = beta_true env.sig m is env.has_bool t r h
    sequent_true (step.Abs n ty a) r each h = one a.0 (abs_of env.sig n ty) r (λ p op tp k. abs_true env.sig m is env.has_bool n ty p r op tp k) h
    sequent_true (step.Iff ab ba) r each h = two ab.0 ba.0 iff_of r (λ p q op oq tp tq k. iff_true env.sig m is env.has_bool p q r op oq tp tq k) h
    sequent_true (step.Inst n ty t a) r each h = one a.0 (inst_of env.sig n ty t) r (λ p op tp k. inst_true env.sig m is env.has_bool n ty t p r tp k) h

  -- ---- derivations
  all_before : (xs ys : List ℕ) → All (FactIsTrue env m) (xs ++ ys) → All (FactIsTrue env m) xs
  all_before [] ys h = All-nil (FactIsTrue env m)
  all_before (x ∷ xs) ys h = All-cons (FactIsTrue env m) x xs (All-head (FactIsTrue env m) x (xs ++ ys) h) (all_before xs ys (All-tail (FactIsTrue env m) x (xs ++ ys) h))

  all_behind : (xs ys : List ℕ) → All (FactIsTrue env m) (xs ++ ys) → All (FactIsTrue env m) ys
  all_behind [] ys h = h
  all_behind (x ∷ xs) ys h = all_behind xs ys (All-tail (FactIsTrue env m) x (xs ++ ys) h)

  push : (P : Sequent → Type 0) (done : List Sequent) (q : Sequent) → ((i : ℕ) (p : Sequent) → slice_get done i ≡ Some p → P p) → P q → (i : ℕ) (p : Sequent) → slice_get (done ++ q ∷ []) i ≡ Some p → P p
  push P [] q each own zero p e = let same : q ≡ p = cc in subst P same own
  push P [] q each own (suc i) p e = cc
  push P (d ∷ done) q each own zero p e = each zero p e
  push P (d ∷ done) q each own (suc i) p e = push P done q (λ j r k. each (suc j) r k) own i p e

  onto_parts : (now : List Sequent → Option (List Sequent)) (done seqs : List Sequent) (o : Option Sequent) → onto now done o ≡ Some seqs → (q : Sequent) × ((o ≡ Some q) × (now (done ++ q ∷ []) ≡ Some seqs))
  onto_parts now done seqs None h = cc
  onto_parts now done seqs (Some q) h = (q, (refl, h))

  derived_from_true : (steps : List Step) (done seqs : List Sequent) → AreOver env.sig done → AreTrueIn env.sig m done → All (FactIsTrue env m) (leaves steps) → derived_from env steps done ≡ Some seqs →
      AreTrueIn env.sig m seqs
  derived_from_true [] done seqs are hold each h = let same : done ≡ seqs = cc in subst (AreTrueIn env.sig m) same hold
  derived_from_true (s ∷ more) done seqs are hold each h =
      let first = onto_parts (derived_from env more) done seqs (sequent env s done) h in
      derived_from_true more (done ++ first.0 ∷ []) seqs (push (IsOver env.sig) done first.0 are (sequent_over env done are s first.0 first.1.0))
      (push (IsTrueIn env.sig m) done first.0 hold (sequent_true done are hold s first.0 (all_before (leaf s) (leaves more) each) first.1.0)) (all_behind (leaf s) (leaves more) each) first.1.1

  pub derived_true : (steps : List Step) (seqs : List Sequent) → All (FactIsTrue env m) (leaves steps) → derived env steps ≡ Some seqs → AreTrueIn env.sig m seqs
  derived_true steps seqs each h = derived_from_true steps [] seqs (λ i q e. cc) (λ i q e. cc) each h

  pub no_proof : (facts : List ℕ) → Refutes env m facts → HasNoProof env facts
  no_proof facts refutes steps proves within =
      let each = All-weaker (Contains facts) (FactIsTrue env m) (λ n h. All-contains (FactIsTrue env m) facts n refutes.facts_are_true h) (leaves steps) within in
      refutes.goal_is_not (λ v range. derived_true steps proves.0 each proves.1 (length proves.0 - 1) (seq set.empty env.goal) proves.2 v range (λ x h. absurd (none_held x h)))
