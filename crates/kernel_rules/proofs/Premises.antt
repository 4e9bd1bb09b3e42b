-- What a rule gives of premises that are there, and that are missing.
use Rattle.std.proofs.Common.{◌≡◌, ℕ, IsTrue, Some, None, Ok, Err, refl, sym, ◌∙◌, ap, subst, List, slice_get}
use Rattle.std.specs.Prelude.{Option, Result, IfOk}
use Rattle.std.specs.Option.{unwrap_or}
use Rattle.hol_terms.specs.declared.sig.Sig.{Sig}
use Rattle.hol_terms.specs.declared.term.Term.{Term}
use Rattle.hol_terms.specs.Substitution.{is_closed}
use Rattle.hol_terms.proofs.Formulas.{formula_closed}
use Rattle.kernel_rules.specs.declared.sequent.Sequent.{Sequent}
use Rattle.kernel_rules.specs.Rules.{fact_of}
use Rattle.hol_terms.specs.declared.env.Env.{Env}
use Rattle.kernel_rules.specs.declared.step.Step.{Step}
use Rattle.kernel_rules.specs.Derivations.{from_fact, from_one, from_two, from_three, sequent}
use Rattle.kernel_rules.specs.Formulas.{IsOver, AreOver}

if_is : {E : Type 0} (r : Result (Option Sequent) E) (a b : Option Sequent) → a ≡ b → IfOk r (λ x. x ≡ a) → IfOk r (λ x. x ≡ b)
if_is (Ok x) a b e h = h ∙ e
if_is (Err x) a b e h = tt

pub of_fact : {E : Type 0} (r : Result (Option Sequent) E) (o : Option Term) (t : Term) → Some t ≡ o → IfOk r (λ x. x ≡ fact_of t) → IfOk r (λ x. x ≡ from_fact o)
of_fact r o t e h = if_is r _ _ (ap from_fact e) h

pub no_fact : (o : Option Term) → None ≡ o → None ≡ from_fact o
no_fact o e = ap from_fact e

pub of_one : {E : Type 0} (r : Result (Option Sequent) E) (o : Option Sequent) (p : Sequent) (f : Sequent → Option Sequent) → Some p ≡ o → IfOk r (λ x. x ≡ f p) → IfOk r (λ x. x ≡ from_one o f)
of_one r o p f e h = if_is r _ _ (ap (λ z. from_one z f) e) h

pub no_one : (o : Option Sequent) (f : Sequent → Option Sequent) → None ≡ o → None ≡ from_one o f
no_one o f e = ap (λ z. from_one z f) e

pub of_two : {E : Type 0} (r : Result (Option Sequent) E) (o1 o2 : Option Sequent) (p q : Sequent) (f : Sequent → Sequent → Option Sequent) → Some p ≡ o1 → Some q ≡ o2 → IfOk r (λ x. x ≡ f p q) →
    IfOk r (λ x. x ≡ from_two o1 o2 f)
of_two r o1 o2 p q f e g h = if_is r _ _ (λ i. from_two (e i) (g i) f) h

pub no_first : (o1 o2 : Option Sequent) (f : Sequent → Sequent → Option Sequent) → None ≡ o1 → None ≡ from_two o1 o2 f
no_first o1 o2 f e = ap (λ z. from_two z o2 f) e

pub no_second : (o1 o2 : Option Sequent) (p : Sequent) (f : Sequent → Sequent → Option Sequent) → Some p ≡ o1 → None ≡ o2 → None ≡ from_two o1 o2 f
no_second o1 o2 p f e g = (λ i. from_two (e i) (g i) f)

pub of_three : {E : Type 0} (r : Result (Option Sequent) E) (o1 o2 o3 : Option Sequent) (p q s : Sequent) (f : Sequent → Sequent → Sequent → Option Sequent) → Some p ≡ o1 → Some q ≡ o2 → Some s ≡ o3 →
    IfOk r (λ x. x ≡ f p q s) → IfOk r (λ x. x ≡ from_three o1 o2 o3 f)
of_three r o1 o2 o3 p q s f e g k h = if_is r _ _ (λ i. from_three (e i) (g i) (k i) f) h

pub no_first_of_three : (o1 o2 o3 : Option Sequent) (f : Sequent → Sequent → Sequent → Option Sequent) → None ≡ o1 → None ≡ from_three o1 o2 o3 f
no_first_of_three o1 o2 o3 f e = ap (λ z. from_three z o2 o3 f) e

pub no_second_of_three : (o1 o2 o3 : Option Sequent) (p : Sequent) (f : Sequent → Sequent → Sequent → Option Sequent) → Some p ≡ o1 → None ≡ o2 → None ≡ from_three o1 o2 o3 f
no_second_of_three o1 o2 o3 p f e g = (λ i. from_three (e i) (g i) o3 f)

pub no_third : (o1 o2 o3 : Option Sequent) (p q : Sequent) (f : Sequent → Sequent → Sequent → Option Sequent) → Some p ≡ o1 → Some q ≡ o2 → None ≡ o3 → None ≡ from_three o1 o2 o3 f
no_third o1 o2 o3 p q f e g k = (λ i. from_three (e i) (g i) (k i) f)

-- a premise over the signature has no loose index
pub premise_closed : (sig : Sig) (earlier : List Sequent) (i : ℕ) (p : Sequent) → AreOver sig earlier → Some p ≡ slice_get earlier i → IsTrue (is_closed p.concl)
premise_closed sig earlier i p are e = formula_closed sig p.concl (are i p (sym e)).concl

-- the same at the step that was matched
pub at_step : {E : Type 0} (r : Result (Option Sequent) E) (env : Env) (s v : Step) (earlier : List Sequent) → s ≡ v → IfOk r (λ o. o ≡ sequent env v earlier) → IfOk r (λ o. o ≡ sequent env s earlier)
at_step r env s v earlier e h = subst (λ z. IfOk r (λ o. o ≡ sequent env z earlier)) (sym e) h

-- a step whose premises are missing has no sequent
pub no_answer : {E : Type 0} (r : Option (Result (Option Sequent) E)) (env : Env) (s v : Step) (earlier : List Sequent) → r ≡ None → s ≡ v → None ≡ sequent env v earlier →
    IfOk (unwrap_or r (Ok None)) (λ o. o ≡ sequent env s earlier)
no_answer r env s v earlier none e h = subst (λ z. IfOk (unwrap_or z (Ok None)) (λ o. o ≡ sequent env s earlier)) (sym none) (subst (λ z. None ≡ sequent env z earlier) (sym e) h)
