-- Steps and the sequents that they give.
use Rattle.std.specs.Prelude.{◌≡◌, ℕ, ◌-◌, List, [], ◌∷◌, ◌++◌, length, slice_get, Option, Some, None, IsSome}
use Rattle.std.specs.FinSet as set
use Rattle.hol_terms.specs.declared.env.Env.{Env}
use Rattle.hol_terms.specs.declared.term.Term.{Term}
use Rattle.kernel_rules.specs.declared.step.Step.{Step}
use Rattle.kernel_rules.specs.declared.step.Step.TheVariants as step
use Rattle.kernel_rules.specs.declared.sequent.Sequent.{Sequent}
use Rattle.kernel_rules.specs.Rules.{seq, fact_of, assume_of, imp_intro_of, imp_elim_of, and_intro_of, and_left_of, and_right_of, or_left_of, or_right_of, or_elim_of, not_intro_of, not_elim_of, true_intro_of, classical_of, all_intro_of, all_elim_of, ex_intro_of, choose_of, refl_of, subst_of, beta_of, abs_of, iff_of, inst_of}

abbrev pub from_fact : Option Term → Option Sequent
from_fact None = None
from_fact (Some t) = fact_of t

-- what a rule gives of earlier sequents, where they are there
abbrev pub from_one : Option Sequent → (Sequent → Option Sequent) → Option Sequent
from_one None f = None
from_one (Some p) f = f p

abbrev pub from_two : Option Sequent → Option Sequent → (Sequent → Sequent → Option Sequent) → Option Sequent
from_two p q f = from_one p (λ a. from_one q (f a))

abbrev pub from_three : Option Sequent → Option Sequent → Option Sequent → (Sequent → Sequent → Sequent → Option Sequent) → Option Sequent
from_three p q r f = from_one p (λ a. from_two q r (f a))

-- the sequent of a step over the sequents before it, or none
abbrev pub sequent : Env → Step → List Sequent → Option Sequent
sequent env (step.Fact n) earlier = from_fact (slice_get env.facts n)
sequent env (step.Assume t) earlier = assume_of env.sig t
sequent env (step.ImpIntro t a) earlier = from_one (slice_get earlier a.0) (imp_intro_of env.sig t)
sequent env (step.ImpElim ab a) earlier = from_two (slice_get earlier ab.0) (slice_get earlier a.0) imp_elim_of
sequent env (step.AndIntro a b) earlier = from_two (slice_get earlier a.0) (slice_get earlier b.0) and_intro_of
sequent env (step.AndLeft ab) earlier = from_one (slice_get earlier ab.0) and_left_of
sequent env (step.AndRight ab) earlier = from_one (slice_get earlier ab.0) and_right_of
sequent env (step.OrLeft t a) earlier = from_one (slice_get earlier a.0) (or_left_of env.sig t)
sequent env (step.OrRight t b) earlier = from_one (slice_get earlier b.0) (or_right_of env.sig t)
sequent env (step.OrElim ab l r) earlier = from_three (slice_get earlier ab.0) (slice_get earlier l.0) (slice_get earlier r.0) or_elim_of
sequent env (step.NotIntro t a) earlier = from_one (slice_get earlier a.0) (not_intro_of env.sig t)
sequent env (step.NotElim na a) earlier = from_two (slice_get earlier na.0) (slice_get earlier a.0) not_elim_of
sequent env step.TrueIntro earlier = true_intro_of
sequent env (step.Classical t a) earlier = from_one (slice_get earlier a.0) (classical_of env.sig t)
sequent env (step.AllIntro n ty a) earlier = from_one (slice_get earlier a.0) (all_intro_of env.sig n ty)
sequent env (step.AllElim t a) earlier = from_one (slice_get earlier a.0) (all_elim_of env.sig t)
sequent env (step.ExIntro f t a) earlier = from_one (slice_get earlier a.0) (ex_intro_of env.sig f t)
sequent env (step.Choose a) earlier = from_one (slice_get earlier a.0) choose_of
sequent env (step.Refl t) earlier = refl_of env.sig t
sequent env (step.Subst f eq a) earlier = from_two (slice_get earlier eq.0) (slice_get earlier a.0) (subst_of env.sig f)
sequent env (step.Beta t) earlier = beta_of env.sig t
sequent env (step.Abs n ty a) earlier = from_one (slice_get earlier a.0) (abs_of env.sig n ty)
sequent env (step.Iff ab ba) earlier = from_two (slice_get earlier ab.0) (slice_get earlier ba.0) iff_of
sequent env (step.Inst n ty t a) earlier = from_one (slice_get earlier a.0) (inst_of env.sig n ty t)

abbrev pub onto : (List Sequent → Option (List Sequent)) → List Sequent → Option Sequent → Option (List Sequent)
onto rest done None = None
onto rest done (Some q) = rest (done ++ q ∷ [])

abbrev pub derived_from : Env → List Step → List Sequent → Option (List Sequent)
derived_from env [] done = Some done
derived_from env (s ∷ more) done = onto (derived_from env more) done (sequent env s done)

-- the sequents of the steps, each over those before it, where every step has one
abbrev pub derived : Env → List Step → Option (List Sequent)
derived env steps = derived_from env steps []

-- every step has a sequent
abbrev pub Checks : Env → List Step → Type 0
Checks env steps = IsSome (derived env steps)

-- the last sequent
abbrev pub last_of : List Sequent → Option Sequent
last_of sequents = slice_get sequents (length sequents - 1)

-- every step has a sequent, and the last one is the goal without hypotheses
abbrev pub Proves : Env → List Step → Type 0
Proves env steps = (sequents : List Sequent) × (derived env steps ≡ Some sequents) × (last_of sequents ≡ Some (seq set.empty env.goal))

abbrev pub leaf : Step → List ℕ
leaf (step.Fact n) = n ∷ []
leaf _ = []

-- the facts of the fact steps, in order
abbrev pub leaves : List Step → List ℕ
leaves [] = []
leaves (s ∷ more) = leaf s ++ leaves more
