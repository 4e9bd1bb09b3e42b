-- What is told of formulas and of lists of facts.
use Rattle.std.proofs.Common.{◌≡◌, ◌↔◌, ℕ, zero, suc, ◌+◌, ◌<◌, ◌≤◌, arith, length, drop, get_or, add-one, Bool, true, false, ◌&&◌, ◌==◌, not, IsTrue, refl, sym, ◌∙◌, ap, subst, List, [], ◌∷◌, ◌++◌, slice_get, Some, None, Ok, Err}
use Rattle.std.specs.Prelude.{Result, All, IfSome, IfOk, IsSome, IsErrAnd}
use Rattle.std.proofs.lemmas.Bool.{eqb-true, eq-eqb}
use Rattle.std.proofs.Math.Seq.{drop-cons}
use Rattle.std.proofs.lemmas.List.Elements.{All-nil, All-cons, All-head, All-tail}
use Rattle.hol_terms.specs.declared.sig.Sig.{Sig}
use Rattle.hol_terms.specs.declared.env.Env.{Env}
use Rattle.hol_terms.specs.declared.term.Term.{Term}
use Rattle.hol_terms.specs.Formulas.{IsSentence}
use Rattle.hol_terms.proofs.Formulas.{sentence_var_free, sentence_formula, formula_typed}
use Rattle.hol_terms.specs.Typing.{type_of_term}
use Rattle.kernel_rules.specs.declared.step.Step.{Step}
use Rattle.kernel_rules.specs.declared.step.Step.TheVariants as step
use Rattle.kernel_rules.specs.Derivations.{leaf, leaves}
use Rattle.model_truth.specs.declared.model.Model.{Model}
use Rattle.model_truth.specs.Sizes.{size, IsModel}
use Rattle.model_truth.specs.Values.{Valuation, value_of}
use Rattle.model_truth.specs.Truth.{InRange, IsValid, FactIsTrue, Refutes}
use Rattle.model_truth.proofs.Sizing.{size_positive}
use Rattle.model_truth.proofs.Substituting.{value_alone}
use Rattle.fin_model.specs.declared.fault.EvalFault.{EvalFault}
use Rattle.fin_model.specs.declared.fault.EvalFault.TheVariants.{TooBig, NoMemory}
use Rattle.fin_model.specs.declared.valued.Valued.{Valued}
use Rattle.fin_model.specs.Fitting.{fits}
use Rattle.fin_model.specs.Given.{given, IsGiven}
use Rattle.fin_model.proofs.Models.{fits_is_model}
use Rattle.fin_model.specs.Limits.{is_within}
use Rattle.fin_model.specs.Refutation.{IsEvaluated, within_at, fact_within, facts_within, Tells}

both_true : (a b : Bool) → (a && b) ≡ true → (a ≡ true) × (b ≡ true)
both_true true b h = (refl, h)
both_true false b h = cc

and_true : (a b : Bool) → a ≡ true → b ≡ true → (a && b) ≡ true
and_true true b h k = k
and_true false b h k = h

-- ---- one formula
pub typed_some : (sig : Sig) (t : Term) → IsSentence sig t → IsSome (type_of_term sig t)
typed_some sig t s = subst (λ o. IsSome o) (sym (formula_typed sig t (sentence_formula sig t s))) refl

pub none_in_range : (sig : Sig) (m : Model) → IsModel sig m → InRange m (given [])
none_in_range sig m is n a = size_positive sig m is a

pub valid_tells : (sig : Sig) (m : Model) (t : Term) (n : ℕ) → IsModel sig m → IsSentence sig t → n ≡ value_of sig m (given []) t → is_within sig m t [] ≡ true → Tells (IsValid sig m t) (is_within sig m t []) (Ok (n == 1))
valid_tells sig m t n is s e within =
    ((λ h v range. value_alone sig m v (given []) t [] [] (sentence_var_free sig t s) ∙ sym e ∙ eqb-true n 1 h, λ valid. eq-eqb n 1 (e ∙ valid (given []) (none_in_range sig m is))), within)

pub err_tells : (P : Type 0) (within : Bool) (r : Result Bool EvalFault) (e : EvalFault) → IsErrAnd r (λ x. x ≡ e) → Tells P within (Err e) → Tells P within r
err_tells P within (Ok b) e h k = absurd h
err_tells P within (Err x) e h k = subst (λ z. Tells P within (Err z)) (sym h) k

-- a refusal is told of the whole
pub refused : (P Q : Type 0) (a b : Bool) (e : EvalFault) → (a ≡ false → b ≡ false) → Tells P a (Err e) → Tells Q b (Err e)
refused P Q a b TooBig f h = f h
refused P Q a b NoMemory f h = tt

pub evaluated_refused : (sig : Sig) (m : Model) (v : Valuation) (t : Term) (P : Type 0) (e : EvalFault) → IsEvaluated sig m v t (Err e) → Tells P (is_within sig m t []) (Err e)
evaluated_refused sig m v t P TooBig h = h
evaluated_refused sig m v t P NoMemory h = tt

-- ---- one fact
pub fact_tells : (env : Env) (m : Model) (n : ℕ) (t : Term) (r : Result Bool EvalFault) → Some t ≡ slice_get env.facts n → Tells (IsValid env.sig m t) (is_within env.sig m t []) r → Tells (FactIsTrue env m n) (fact_within env m n) r
fact_tells env m n t r e h = subst (λ o. Tells (IfSome o (IsValid env.sig m)) (within_at env.sig m o) r) e h

pub no_fact_tells : (env : Env) (m : Model) (n : ℕ) → None ≡ slice_get env.facts n → Tells (FactIsTrue env m n) (fact_within env m n) (Ok true)
no_fact_tells env m n e = subst (λ o. Tells (IfSome o (IsValid env.sig m)) (within_at env.sig m o) (Ok true)) e ((λ _. tt, λ _. refl), refl)

-- ---- lists of facts
module _ (env : Env) (m : Model) where
  abbrev P : ℕ → Type 0
  P = FactIsTrue env m

  pub all_before : (xs ys : List ℕ) → All P (xs ++ ys) → All P xs
  all_before [] ys h = All-nil P
  all_before (x ∷ xs) ys h = All-cons P x xs (All-head P x (xs ++ ys) h) (all_before xs ys (All-tail P x (xs ++ ys) h))

  pub all_behind : (xs ys : List ℕ) → All P (xs ++ ys) → All P ys
  all_behind [] ys h = h
  all_behind (x ∷ xs) ys h = all_behind xs ys (All-tail P x (xs ++ ys) h)

  pub all_both : (xs ys : List ℕ) → All P xs → All P ys → All P (xs ++ ys)
  all_both [] ys h k = k
  all_both (x ∷ xs) ys h k = All-cons P x (xs ++ ys) (All-head P x xs h) (all_both xs ys (All-tail P x xs h) k)

  and_assoc : (a b c : Bool) → (a && (b && c)) ≡ ((a && b) && c)
  and_assoc true b c = refl
  and_assoc false b c = refl

  pub within_both : (xs ys : List ℕ) → facts_within env m (xs ++ ys) ≡ (facts_within env m xs && facts_within env m ys)
  within_both [] ys = refl
  within_both (x ∷ xs) ys = ap (λ b. fact_within env m x && b) (within_both xs ys) ∙ and_assoc (fact_within env m x) (facts_within env m xs) (facts_within env m ys)

  -- how far a loop has come: what is told so far, and what is left
  pub record SoFar (told : Bool) (left whole : List ℕ) : Type 0 where
    pub holds : (IsTrue told × All P left) ↔ All P whole
    pub within : facts_within env m left ≡ facts_within env m whole

  pub begun : (whole : List ℕ) → SoFar true whole whole
  begun whole = record { holds = (λ h. h.1, λ h. (refl, h)); within = refl }

  pub gone_on : (told own : Bool) (xs left whole : List ℕ) → SoFar told (xs ++ left) whole → Tells (All P xs) (facts_within env m xs) (Ok own) → SoFar (own && told) left whole
  gone_on told own xs left whole so h =
      record {
        holds = (
          λ k. let both = both_true own told k.0 in so.holds.0 (both.1, all_both xs left (h.0.0 both.0) k.1),
          λ k. let all = so.holds.1 k in (and_true own told (h.0.1 (all_before xs left all.1)) all.0, all_behind xs left all.1),
        );
        within = sym (within_both xs left ∙ ap (λ b. b && facts_within env m left) h.1) ∙ so.within;
      }

  pub gone_wrong : (told : Bool) (xs left whole : List ℕ) → SoFar told (xs ++ left) whole → facts_within env m xs ≡ false → facts_within env m whole ≡ false
  gone_wrong told xs left whole so h = sym so.within ∙ within_both xs left ∙ ap (λ b. b && facts_within env m left) h

  pub at_end : (told : Bool) (left whole : List ℕ) → left ≡ [] → SoFar told left whole → Tells (All P whole) (facts_within env m whole) (Ok told)
  at_end told left whole e so =
      let now = subst (λ z. SoFar told z whole) e so in ((λ h. now.holds.0 (h, All-nil P), λ h. (now.holds.1 h).0), sym now.within)

  pub facts_next : (told : Bool) (xs whole : List ℕ) (i : ℕ) → SoFar told (drop i xs) whole → i < length xs → SoFar told ((get_or xs i 0 ∷ []) ++ drop (i + 1) xs) whole
  facts_next told xs whole i so h = subst (λ z. SoFar told z whole) (drop-cons xs i 0 h ∙ ap (λ z. get_or xs i 0 ∷ drop z xs) (sym (add-one i))) so

  pub steps_next : (told : Bool) (xs : List Step) (whole : List ℕ) (i : ℕ) (d : Step) → SoFar told (leaves (drop i xs)) whole → i < length xs → d ≡ get_or xs i d → SoFar told (leaf d ++ leaves (drop (i + 1) xs)) whole
  steps_next told xs whole i d so h e =
      subst (λ z. SoFar told z whole) (ap leaves (drop-cons xs i d h ∙ ap (λ z. get_or xs i d ∷ drop z xs) (sym (add-one i))) ∙ ap (λ z. leaf z ++ leaves (drop (i + 1) xs)) (sym e)) so

  pub left_nothing : {X : Type 0} (xs : List X) (i : ℕ) → length xs ≤ i → drop i xs ≡ []
  left_nothing [] zero h = refl
  left_nothing [] (suc i) h = refl
  left_nothing (x ∷ xs) zero h = absurd (omega arith)
  left_nothing (x ∷ xs) (suc i) h = left_nothing xs i (omega arith)

  and_one : (a : Bool) → (a && true) ≡ a
  and_one true = refl
  and_one false = refl

  -- one number as a list
  pub one_tells : (n : ℕ) (r : Result Bool EvalFault) → Tells (P n) (fact_within env m n) r → Tells (All P (n ∷ [])) (facts_within env m (n ∷ [])) r
  one_tells n (Ok b) h = ((λ k. All-cons P n [] (h.0.0 k) (All-nil P), λ k. h.0.1 (All-head P n [] k)), and_one (fact_within env m n) ∙ h.1)
  one_tells n (Err TooBig) h = and_one (fact_within env m n) ∙ h
  one_tells n (Err NoMemory) h = tt

  pub none_tells : Tells (All P []) (facts_within env m []) (Ok true)
  none_tells = ((λ _. All-nil P, λ _. refl), refl)

-- a step that names no fact
pub no_leaf : (s : Step) → ((n : ℕ) → s ≡ step.Fact n → ⊥) → leaf s ≡ []
no_leaf (step.Fact n) h = absurd (h n refl)
no_leaf (step.Assume t) h = refl
no_leaf (step.ImpIntro t a) h = refl
no_leaf (step.ImpElim a b) h = refl
no_leaf (step.AndIntro a b) h = refl
no_leaf (step.AndLeft a) h = refl
no_leaf (step.AndRight a) h = refl
no_leaf (step.OrLeft t a) h = refl
no_leaf (step.OrRight t a) h = refl
no_leaf (step.OrElim a b c) h = refl
no_leaf (step.NotIntro t a) h = refl
no_leaf (step.NotElim a b) h = refl
no_leaf step.TrueIntro h = refl
no_leaf (step.Classical t a) h = refl
no_leaf (step.AllIntro n a b) h = refl
no_leaf (step.AllElim t a) h = refl
no_leaf (step.ExIntro f t a) h = refl
no_leaf (step.Choose a) h = refl
no_leaf (step.Refl t) h = refl
no_leaf (step.Subst f a b) h = refl
no_leaf (step.Beta t) h = refl
no_leaf (step.Abs n a b) h = refl
no_leaf (step.Iff a b) h = refl
no_leaf (step.Inst n a t b) h = refl

-- ---- refutation
pub refutes_tells : (env : Env) (m : Model) (facts : List ℕ) (f g : Bool) → Tells (All (FactIsTrue env m) facts) (facts_within env m facts) (Ok f) → Tells (IsValid env.sig m env.goal) (is_within env.sig m env.goal []) (Ok g) →
    Tells (Refutes env m facts) (facts_within env m facts && is_within env.sig m env.goal []) (Ok (f && not g))
refutes_tells env m facts f g hf hg = (
  (
    λ k. let both = both_true f (not g) k in record { facts_are_true = hf.0.0 both.0; goal_is_not = λ valid. clash g both.1 (hg.0.1 valid) },
    λ r. and_true f (not g) (hf.0.1 r.facts_are_true) (lacks g (λ h. r.goal_is_not (hg.0.0 h))),
  ),
  and_true (facts_within env m facts) (is_within env.sig m env.goal []) hf.1 hg.1,
)
  where
    clash : (b : Bool) → not b ≡ true → b ≡ true → ⊥
    clash true h k = cc
    clash false h k = cc

    lacks : (b : Bool) → (b ≡ true → ⊥) → not b ≡ true
    lacks true h = absurd (h refl)
    lacks false h = refl

pub first_false : (a b : Bool) → a ≡ false → (a && b) ≡ false
first_false true b h = cc
first_false false b h = refl

pub second_false : (a b : Bool) → b ≡ false → (a && b) ≡ false
second_false true b h = h
second_false false b h = refl

pub nothing_promised : (r : Result Bool EvalFault) (e : EvalFault) (P : Bool → Type 0) → IsErrAnd r (λ x. x ≡ e) → IfOk r P
nothing_promised (Ok b) e P h = absurd h
nothing_promised (Err x) e P h = tt

-- where nothing is given, every variable has the value 0
pub none_given : (sig : Sig) (m : Model) (free : List Valued) (t : Term) → IsTrue (fits sig m) → free ≡ [] → IsGiven m (given free) t
none_given sig m free t h e = λ n a _. subst (λ l. given l n a < size m a) (sym e) (none_in_range sig m (fits_is_model sig m h) n a)
