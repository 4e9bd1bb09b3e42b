-- Sequents that are true in a model.
use Rattle.std.specs.Prelude.{◌≡◌, ℕ, ◌<◌, ◌&&◌, ◌==◌, if◌then◌else◌, List, slice_get, All, Contains, Some, IfSome}
use Rattle.hol_terms.specs.declared.ty.Ty.{Ty}
use Rattle.hol_terms.specs.declared.sig.Sig.{Sig}
use Rattle.hol_terms.specs.declared.term.Term.{Term}
use Rattle.hol_terms.specs.declared.env.Env.{Env}
use Rattle.hol_terms.specs.Types.{is_ty}
use Rattle.hyp_sets.specs.Sets.{Holds}
use Rattle.kernel_rules.specs.declared.sequent.Sequent.{Sequent}
use Rattle.kernel_rules.specs.declared.step.Step.{Step}
use Rattle.kernel_rules.specs.Derivations.{Proves, leaves}
use Rattle.model_truth.specs.declared.model.Model.{Model}
use Rattle.model_truth.specs.Sizes.{or_else, size}
use Rattle.model_truth.specs.Values.{Valuation, value_of}

-- each variable has a value of its type
abbrev pub InRange : Model → Valuation → Type 0
InRange m v = (n : ℕ) (a : Ty) → v n a < size m a

-- the values listed for some types are of these types
abbrev pub AllWithin : Model → List Ty → List ℕ → Type 0
AllWithin m types values = (i : ℕ) (a : Ty) → slice_get types i ≡ Some a → or_else 0 (slice_get values i) < size m a

-- the valuation that gives `x` to the variable, and the same to every other
abbrev pub updated : Valuation → ℕ → Ty → ℕ → Valuation
updated v n a x k b = if k == n && is_ty b a then x else v k b

-- the valuation makes the formula true
abbrev pub Makes : Sig → Model → Valuation → Term → Type 0
Makes sig m v t = value_of sig m v t ≡ 1

-- every valuation that makes the formula's hypotheses true makes its conclusion true
abbrev pub IsTrueIn : Sig → Model → Sequent → Type 0
IsTrueIn sig m q = (v : Valuation) → InRange m v → ((x : Term) → Holds q.hyps x → Makes sig m v x) → Makes sig m v q.concl

-- so are all sequents of a list
abbrev pub AreTrueIn : Sig → Model → List Sequent → Type 0
AreTrueIn sig m sequents = (i : ℕ) (q : Sequent) → slice_get sequents i ≡ Some q → IsTrueIn sig m q

-- every valuation makes the formula true
abbrev pub IsValid : Sig → Model → Term → Type 0
IsValid sig m t = (v : Valuation) → InRange m v → Makes sig m v t

-- the fact with this number is true
abbrev pub FactIsTrue : Env → Model → ℕ → Type 0
FactIsTrue env m n = IfSome (slice_get env.facts n) (IsValid env.sig m)

-- the facts are true, and the goal isn't
pub record Refutes (env : Env) (m : Model) (facts : List ℕ) : Type 0 where
  pub facts_are_true : All (FactIsTrue env m) facts
  pub goal_is_not : IsValid env.sig m env.goal → ⊥

-- no steps prove the goal from these facts
abbrev pub HasNoProof : Env → List ℕ → Type 0
HasNoProof env facts = (steps : List Step) → Proves env steps → All (Contains facts) (leaves steps) → ⊥
