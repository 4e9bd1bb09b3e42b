-- Whole lists of steps.
use Rattle.std.specs.Prelude.{◌≡◌, ℕ, List, take, slice_get, Some, None, Result, Ok, Err}
use Rattle.hol_terms.specs.declared.env.Env.{Env}
use Rattle.kernel_rules.specs.declared.step.Step.{Step}
use Rattle.kernel_rules.specs.declared.sequent.Sequent.{Sequent}
use Rattle.kernel_rules.specs.Derivations.{derived, sequent}
use Rattle.hol_kernel.specs.declared.fault.StepFault.{StepFault}
use Rattle.hol_kernel.specs.declared.fault.StepFault.TheVariants.{Refused, NoMemory}
use Rattle.hol_kernel.specs.Logs.{Logged}

-- the log has these steps, with their sequents
pub record IsLogOf (over : Env) (given : List Step) (log : Logged) : Type 0 where
  pub env : log.env ≡ over
  pub steps : log.steps ≡ given
  pub follows : derived over given ≡ Some log.sequents

-- the steps before step `at` have sequents, and it has none
pub record IsFirstRefused (env : Env) (steps : List Step) (at : ℕ) : Type 0 where
  pub done : List Sequent
  pub before : derived env (take at steps) ≡ Some done
  pub step : Step
  pub is : slice_get steps at ≡ Some step
  pub none : sequent env step done ≡ None

-- the log of the steps where each has a sequent, and else the place of the first that has none
abbrev pub Checked : Env → List Step → Result Logged StepFault → Type 0
Checked env steps (Ok log) = IsLogOf env steps log
Checked env steps (Err (Refused at)) = IsFirstRefused env steps at
Checked env steps (Err NoMemory) = Unit {0}
