-- What the calls answer.
use Rattle.std.specs.Prelude.{◌≡◌, ◌↔◌, ℕ, Bool, true, false, ◌&&◌, List, [], ◌∷◌, slice_get, IsTrue, Option, Some, None, Result, Ok, Err}
use Rattle.hol_terms.specs.declared.sig.Sig.{Sig}
use Rattle.hol_terms.specs.declared.env.Env.{Env}
use Rattle.hol_terms.specs.declared.term.Term.{Term}
use Rattle.model_truth.specs.declared.model.Model.{Model}
use Rattle.model_truth.specs.Values.{Valuation, value_of}
use Rattle.fin_model.specs.declared.fault.EvalFault.{EvalFault}
use Rattle.fin_model.specs.declared.fault.EvalFault.TheVariants.{TooBig, NoMemory}
use Rattle.fin_model.specs.Limits.{is_within}

-- a value, and `TooBig` exactly where something that is measured is above its limit
abbrev pub IsEvaluated : Sig → Model → Valuation → Term → Result ℕ EvalFault → Type 0
IsEvaluated sig m v t (Ok n) = (n ≡ value_of sig m v t) × (is_within sig m t [] ≡ true)
IsEvaluated sig m v t (Err TooBig) = is_within sig m t [] ≡ false
IsEvaluated sig m v t (Err NoMemory) = Unit {0}

-- what is measured in the fact with this number is within the limits; no fact has nothing to measure
abbrev pub within_at : Sig → Model → Option Term → Bool
within_at sig m None = true
within_at sig m (Some t) = is_within sig m t []

abbrev pub fact_within : Env → Model → ℕ → Bool
fact_within env m n = within_at env.sig m (slice_get env.facts n)

-- so are all facts with these numbers
abbrev pub facts_within : Env → Model → List ℕ → Bool
facts_within env m [] = true
facts_within env m (n ∷ more) = fact_within env m n && facts_within env m more

-- `true` exactly where P holds, and `TooBig` exactly where something isn't within the limits
abbrev pub Tells : Type 0 → Bool → Result Bool EvalFault → Type 0
Tells P within (Ok b) = (IsTrue b ↔ P) × (within ≡ true)
Tells P within (Err TooBig) = within ≡ false
Tells P within (Err NoMemory) = Unit {0}
