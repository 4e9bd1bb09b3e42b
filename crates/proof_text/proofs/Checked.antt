-- Steps that check name what is declared.
use Rattle.std.proofs.Common.{◌≡◌, ℕ, ◌++◌, ◌&&◌, nat_lt, if◌then◌else◌, Bool, true, false, IsTrue, List, [], ◌∷◌, length, slice_get, Some, None, refl, rules}
use Rattle.std.specs.Prelude.{Option, IsSome}
use Rattle.std.specs.List.{list_all}
use Rattle.std.proofs.lemmas.Option.{slice_get_within}
use Rattle.hol_terms.specs.declared.ty.Ty.{Ty}
use Rattle.hol_terms.specs.declared.env.Env.{Env}
use Rattle.hol_terms.specs.declared.term.Term.{Term}
use Rattle.hol_terms.specs.Types.{bool_ty, function_ty, ty_fits}
use Rattle.hol_terms.specs.Typing.{type_of_term}
use Rattle.hol_terms.specs.Formulas.{is_formula, aux_free}
use Rattle.hol_terms.proofs.Both.{both_true, and_true}
use Rattle.hyp_sets.specs.Order.{is_same}
use Rattle.hyp_sets.specs.Sets.{absent}
use Rattle.kernel_rules.specs.declared.step.Step.{Step}
use Rattle.kernel_rules.specs.declared.step.Step.TheVariants as step
use Rattle.kernel_rules.specs.declared.sequent.Sequent.{Sequent}
use Rattle.kernel_rules.specs.Connectives.{left_of, head_ty, is_equal, is_all, is_falsum, is_redex, applied_to}
use Rattle.kernel_rules.specs.Rules.{when, with_type, is_given, imp_intro_of, or_left_of, or_right_of, not_intro_of, classical_of, all_intro_of, all_elim_of, ex_intro_of, subst_of, abs_of, inst_of}
use Rattle.kernel_rules.specs.Derivations.{from_fact, from_one, from_two, sequent, onto, derived_from, Checks}
use Rattle.proof_syntax.specs.Forms.{form}
use Rattle.proof_text.proofs.Naming.{term_named, args_named, typed_named, given_named, formula_named, IsNamed}

-- ---- what a rule asks

if_some : {A : Type 0} (b : Bool) (x r : A) → (if b then Some x else None) ≡ Some r → b ≡ true
if_some true x r h = refl
if_some false x r h = cc

when_true : (b : Bool) (q r : Sequent) → when b q ≡ Some r → b ≡ true
when_true b q r h = if_some b q r h

typed_some : (o : Option Ty) (f : Ty → Option Sequent) (r : Sequent) → with_type o f ≡ Some r → (a : Ty) × (o ≡ Some a) × (f a ≡ Some r)
typed_some None f r h = cc
typed_some (Some a) f r h = (a, refl, h)

one_some : (o : Option Sequent) (f : Sequent → Option Sequent) (r : Sequent) → from_one o f ≡ Some r → (p : Sequent) × (f p ≡ Some r)
one_some None f r h = cc
one_some (Some p) f r h = (p, h)

two_some : (o u : Option Sequent) (f : Sequent → Sequent → Option Sequent) (r : Sequent) → from_two o u f ≡ Some r → (p : Sequent) × (q : Sequent) × (f p q ≡ Some r)
two_some o u f r h =
    let first = one_some o (λ a. from_one u (f a)) r h in
    let second = one_some u (f first.0) r first.1 in
    (first.0, second.0, second.1)

fact_some : (o : Option Term) (r : Sequent) → from_fact o ≡ Some r → (t : Term) × (o ≡ Some t)
fact_some None r h = cc
fact_some (Some t) r h = (t, refl)

module _ (env : Env) (earlier : List Sequent) where
  abbrev Named : Term → Type 0
  Named t = IsNamed env.sig t

  abbrev Fits : Ty → Type 0
  Fits a = IsTrue (ty_fits env.sig.types a)

  alone : (b : Bool) → IsTrue b → IsTrue (b && true)
  alone b h = and_true b true h refl

  formula_then : (t : Term) (b : Bool) (q r : Sequent) → when (is_formula env.sig t && b) q ≡ Some r → Named t
  formula_then t b q r h = formula_named env.sig t (both_true (is_formula env.sig t) b (when_true (is_formula env.sig t && b) q r h)).0

  formula_when : (t : Term) (q r : Sequent) → when (is_formula env.sig t) q ≡ Some r → Named t
  formula_when t q r h = formula_named env.sig t (when_true (is_formula env.sig t) q r h)

  typed_then : (t : Term) (f : Ty → Bool) (q : Ty → Sequent) (r : Sequent) → ((a : Ty) → f a ≡ true → IsTrue (aux_free t)) →
      with_type (type_of_term env.sig t) (λ a. when (f a) (q a)) ≡ Some r → Named t
  typed_then t f q r free h =
      let s = typed_some (type_of_term env.sig t) (λ a. when (f a) (q a)) r h in
      typed_named env.sig t s.0 s.1 (free s.0 (when_true (f s.0) (q s.0) r s.2))

  all_elim_named : (t : Term) (p r : Sequent) → all_elim_of env.sig t p ≡ Some r → Named t
  all_elim_named t p r h =
      let both = both_true (is_all p.concl) (is_given env.sig t (head_ty p.concl)) (when_true (is_all p.concl && is_given env.sig t (head_ty p.concl)) _ r h) in
      given_named env.sig t (head_ty p.concl) both.1

  ex_intro_named : (f t : Term) (p r : Sequent) → ex_intro_of env.sig f t p ≡ Some r → Named f × Named t
  ex_intro_named f t p r h =
      let s = typed_some (type_of_term env.sig t) _ r h in
      let given = is_given env.sig f (function_ty s.0 bool_ty) in
      let outer = both_true (given && aux_free t) (is_same p.concl (applied_to f t)) (when_true ((given && aux_free t) && is_same p.concl (applied_to f t)) _ r s.2) in
      let inner = both_true given (aux_free t) outer.0 in
      (given_named env.sig f (function_ty s.0 bool_ty) inner.0, typed_named env.sig t s.0 s.1 inner.1)

  subst_named : (f : Term) (p q r : Sequent) → subst_of env.sig f p q ≡ Some r → Named f
  subst_named f p q r h =
      let given = is_given env.sig f (function_ty (head_ty p.concl) bool_ty) in
      let outer = both_true (is_equal p.concl && given) (is_same q.concl (applied_to f (left_of p.concl))) (when_true ((is_equal p.concl && given) && is_same q.concl (applied_to f (left_of p.concl))) _ r h) in
      given_named env.sig f (function_ty (head_ty p.concl) bool_ty) (both_true (is_equal p.concl) given outer.0).1

  all_intro_fits : (n : ℕ) (a : Ty) (p r : Sequent) → all_intro_of env.sig n a p ≡ Some r → Fits a
  all_intro_fits n a p r h = (both_true (ty_fits env.sig.types a) (absent n a p.hyps) (when_true (ty_fits env.sig.types a && absent n a p.hyps) _ r h)).0

  abs_fits : (n : ℕ) (a : Ty) (p r : Sequent) → abs_of env.sig n a p ≡ Some r → Fits a
  abs_fits n a p r h =
      let outer = both_true (is_equal p.concl && ty_fits env.sig.types a) (absent n a p.hyps) (when_true ((is_equal p.concl && ty_fits env.sig.types a) && absent n a p.hyps) _ r h) in
      (both_true (is_equal p.concl) (ty_fits env.sig.types a) outer.0).1

  inst_named : (n : ℕ) (a : Ty) (t : Term) (p r : Sequent) → inst_of env.sig n a t p ≡ Some r → Fits a × Named t
  inst_named n a t p r h =
      let both = both_true (ty_fits env.sig.types a) (is_given env.sig t a) (when_true (ty_fits env.sig.types a && is_given env.sig t a) _ r h) in
      (both.0, given_named env.sig t a both.1)

  -- ---- a step that has a sequent

  abbrev pub StepNamed : Step → Type 0
  StepNamed s = IsTrue (args_named env.sig.types (length env.sig.consts) (length env.facts) (form s).args)

  of_term : (t : Term) → Named t → IsTrue (term_named env.sig.types (length env.sig.consts) t && true)
  of_term t h = alone (term_named env.sig.types (length env.sig.consts) t) h

  of_terms : (s t : Term) → Named s → Named t → IsTrue (term_named env.sig.types (length env.sig.consts) s && (term_named env.sig.types (length env.sig.consts) t && true))
  of_terms s t h k = and_true (term_named env.sig.types (length env.sig.consts) s) (term_named env.sig.types (length env.sig.consts) t && true) h (of_term t k)

  pub step_named : (s : Step) (r : Sequent) → sequent env s earlier ≡ Some r → StepNamed s
  step_named (step.Fact n) r h =
      let is = fact_some (slice_get env.facts n) r h in
      let l = slice_get_within env.facts n is.0 is.1 in
      alone (nat_lt n (length env.facts)) (search (rules, l))
  step_named (step.Assume t) r h = of_term t (formula_when t _ r h)
  step_named (step.ImpIntro t a) r h = let p = one_some (slice_get earlier a.0) (imp_intro_of env.sig t) r h in of_term t (formula_when t _ r p.1)
  step_named (step.ImpElim ab a) r h = refl
  step_named (step.AndIntro a b) r h = refl
  step_named (step.AndLeft ab) r h = refl
  step_named (step.AndRight ab) r h = refl
  step_named (step.OrLeft t a) r h = let p = one_some (slice_get earlier a.0) (or_left_of env.sig t) r h in of_term t (formula_when t _ r p.1)
  step_named (step.OrRight t b) r h = let p = one_some (slice_get earlier b.0) (or_right_of env.sig t) r h in of_term t (formula_when t _ r p.1)
  step_named (step.OrElim ab l m) r h = refl
  step_named (step.NotIntro t a) r h = let p = one_some (slice_get earlier a.0) (not_intro_of env.sig t) r h in of_term t (formula_then t (is_falsum p.0.concl) _ r p.1)
  step_named (step.NotElim na a) r h = refl
  step_named step.TrueIntro r h = refl
  step_named (step.Classical t a) r h = let p = one_some (slice_get earlier a.0) (classical_of env.sig t) r h in of_term t (formula_then t (is_falsum p.0.concl) _ r p.1)
  step_named (step.AllIntro n ty a) r h =
      let p = one_some (slice_get earlier a.0) (all_intro_of env.sig n ty) r h in alone (ty_fits env.sig.types ty) (all_intro_fits n ty p.0 r p.1)
  step_named (step.AllElim t a) r h = let p = one_some (slice_get earlier a.0) (all_elim_of env.sig t) r h in of_term t (all_elim_named t p.0 r p.1)
  step_named (step.ExIntro f t a) r h =
      let p = one_some (slice_get earlier a.0) (ex_intro_of env.sig f t) r h in let both = ex_intro_named f t p.0 r p.1 in of_terms f t both.0 both.1
  step_named (step.Choose a) r h = refl
  step_named (step.Refl t) r h = of_term t (typed_then t (λ a. aux_free t) _ r (λ a k. k) h)
  step_named (step.Subst f eq a) r h =
      let p = two_some (slice_get earlier eq.0) (slice_get earlier a.0) (subst_of env.sig f) r h in of_term f (subst_named f p.0 p.1 r p.2)
  step_named (step.Beta t) r h = of_term t (typed_then t (λ a. aux_free t && is_redex t) _ r (λ a k. (both_true (aux_free t) (is_redex t) k).0) h)
  step_named (step.Abs n ty a) r h = let p = one_some (slice_get earlier a.0) (abs_of env.sig n ty) r h in alone (ty_fits env.sig.types ty) (abs_fits n ty p.0 r p.1)
  step_named (step.Iff ab ba) r h = refl
  step_named (step.Inst n ty t a) r h =
      let p = one_some (slice_get earlier a.0) (inst_of env.sig n ty t) r h in
      let both = inst_named n ty t p.0 r p.1 in
      and_true (ty_fits env.sig.types ty) (term_named env.sig.types (length env.sig.consts) t && true) both.0 (of_term t both.1)

-- ---- steps that check

module _ (env : Env) where
  abbrev pub StepsNamed : List Step → Type 0
  StepsNamed steps = IsTrue (list_all (λ s. args_named env.sig.types (length env.sig.consts) (length env.facts) (form s).args) steps)

  onto_named : (s : Step) (more : List Step) (done : List Sequent) (o : Option Sequent) → sequent env s done ≡ o → ((q : Sequent) → IsSome (derived_from env more (done ++ q ∷ [])) → StepsNamed more) →
      IsSome (onto (derived_from env more) done o) → StepsNamed (s ∷ more)
  onto_named s more done None e rest h = cc
  onto_named s more done (Some q) e rest h =
      and_true (args_named env.sig.types (length env.sig.consts) (length env.facts) (form s).args)
      (list_all (λ s. args_named env.sig.types (length env.sig.consts) (length env.facts) (form s).args) more) (step_named env done s q e) (rest q h)

  named_from : (steps : List Step) (done : List Sequent) → IsSome (derived_from env steps done) → StepsNamed steps
  named_from [] done h = refl
  named_from (s ∷ more) done h = onto_named s more done (sequent env s done) refl (λ q k. named_from more (done ++ q ∷ []) k) h

  pub checked_named : (steps : List Step) → Checks env steps → StepsNamed steps
  checked_named steps h = named_from steps [] h
