-- Laws of values and of truth.
use Rattle.std.specs.Prelude.{◌≡◌, ℕ, ◌<◌, true, IsTrue, List, [], ◌∷◌, Some, All}
use Rattle.hol_terms.specs.declared.ty.Ty.{Ty}
use Rattle.hol_terms.specs.declared.sig.Sig.{Sig}
use Rattle.hol_terms.specs.declared.env.Env.{Env}
use Rattle.hol_terms.specs.declared.term.Term.{Term}
use Rattle.hol_terms.specs.Types.{function_ty, ty_fits}
use Rattle.hol_terms.specs.Typing.{type_of_term}
use Rattle.hol_terms.specs.Substitution.{instantiated, abstracted, put_free, one_put, occurs}
use Rattle.kernel_rules.specs.declared.sequent.Sequent.{Sequent}
use Rattle.kernel_rules.specs.declared.step.Step.{Step}
use Rattle.kernel_rules.specs.Derivations.{sequent, derived, leaf, leaves}
use Rattle.kernel_rules.specs.Formulas.{AreOver}
use Rattle.model_truth.specs.declared.model.Model.{Model}
use Rattle.model_truth.specs.Sizes.{size, IsModel}
use Rattle.model_truth.specs.Values.{Valuation, at, value_in, value_of}
use Rattle.model_truth.specs.Truth.{InRange, updated, IsTrueIn, AreTrueIn, FactIsTrue, Refutes, HasNoProof}

-- the value of a term is one of its type
abbrev pub ValueIsOfItsType : Sig → Model → Term → Type 0
ValueIsOfItsType sig m t = IsModel sig m → (v : Valuation) → InRange m v → (a : Ty) → type_of_term sig t ≡ Some a → value_of sig m v t < size m a

-- two functions with the same value everywhere are one number
abbrev pub FunctionsAreTheirValues : Sig → Model → Ty → Ty → Type 0
FunctionsAreTheirValues sig m a b =
    IsModel sig m → (f g : ℕ) → f < size m (function_ty a b) → g < size m (function_ty a b) → ((x : ℕ) → x < size m a → at m b f x ≡ at m b g x) → f ≡ g

-- in `t[u]` the bound variable has the value of `u`
abbrev pub SubstitutionUpdates : Sig → Model → Ty → Term → Term → Type 0
SubstitutionUpdates sig m s t u =
    (v : Valuation) → type_of_term sig u ≡ Some s → value_of sig m v (instantiated t u) ≡ value_in sig m v t (s ∷ []) (value_of sig m v u ∷ [])

-- the body of the lambda over a variable is worth at `x` what the term is worth where the variable has the value `x`
abbrev pub AbstractionUpdates : Sig → Model → ℕ → Ty → Term → Type 0
AbstractionUpdates sig m n a t =
    (v : Valuation) (x : ℕ) → IsTrue (ty_fits sig.types a) → value_in sig m v (abstracted n a t) (a ∷ []) (x ∷ []) ≡ value_of sig m (updated v n a x) t

-- with `u` put for a variable, the variable has the value of `u`
abbrev pub ReplacementUpdates : Sig → Model → ℕ → Ty → Term → Term → Type 0
ReplacementUpdates sig m n a u t =
    (v : Valuation) → IsTrue (ty_fits sig.types a) → type_of_term sig u ≡ Some a → value_of sig m v (put_free (one_put n a u) t) ≡ value_of sig m (updated v n a (value_of sig m v u)) t

-- the value of a term depends on the variables that occur in it
abbrev pub ValueIsOfItsVariables : Sig → Model → Term → Type 0
ValueIsOfItsVariables sig m t = (v w : Valuation) → ((n : ℕ) (a : Ty) → occurs n a t ≡ true → v n a ≡ w n a) → value_of sig m v t ≡ value_of sig m w t

-- a rule makes of true sequents, and of facts that are true, true sequents
abbrev pub RulesKeepTruth : Env → Model → Step → List Sequent → Type 0
RulesKeepTruth env m s earlier =
    IsModel env.sig m → AreOver env.sig earlier → AreTrueIn env.sig m earlier → All (FactIsTrue env m) (leaf s) → (q : Sequent) → sequent env s earlier ≡ Some q → IsTrueIn env.sig m q

-- every sequent of a derivation from facts that are true is true
abbrev pub DerivationsKeepTruth : Env → Model → List Step → Type 0
DerivationsKeepTruth env m steps = IsModel env.sig m → All (FactIsTrue env m) (leaves steps) → (sequents : List Sequent) → derived env steps ≡ Some sequents → AreTrueIn env.sig m sequents

-- where a model refutes the goal, no steps prove it from these facts
abbrev pub CountermodelsRefute : Env → Model → List ℕ → Type 0
CountermodelsRefute env m facts = IsModel env.sig m → Refutes env m facts → HasNoProof env facts
