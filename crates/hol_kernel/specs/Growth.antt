-- How a log grows.
use Rattle.std.specs.Prelude.{◌≡◌, ℕ, ◌<◌, ◌≤◌, List, [], ◌∷◌, ◌++◌, length, Some, None, Result, Ok, Err}
use Rattle.kernel_rules.specs.declared.step.Step.{Step}
use Rattle.kernel_rules.specs.declared.step.ThmId.{ThmId}
use Rattle.kernel_rules.specs.declared.sequent.Sequent.{Sequent}
use Rattle.kernel_rules.specs.Derivations.{sequent, leaves}
use Rattle.hol_kernel.specs.declared.fault.StepFault.{StepFault}
use Rattle.hol_kernel.specs.declared.fault.StepFault.TheVariants.{Refused, NoMemory}
use Rattle.hol_kernel.specs.Logs.{Logged, seq_at, IsThm}

-- earlier steps and theorems stay
pub record Extends (old new : Logged) : Type 0 where
  pub env : new.env ≡ old.env
  pub steps : (more : List Step) × (new.steps ≡ old.steps ++ more)
  pub longer : length old.sequents ≤ length new.sequents
  pub earlier : (i : ℕ) → i < length old.sequents → seq_at new.sequents i ≡ seq_at old.sequents i

-- no fact step is added: the log rests on the same facts
abbrev pub SameFacts : Logged → Logged → Type 0
SameFacts old new = leaves new.steps ≡ leaves old.steps

-- theorem `r` is `q`
pub record Gives (new : Logged) (r : ℕ) (q : Sequent) : Type 0 where
  pub is_thm : IsThm new r
  pub is : seq_at new.sequents r ≡ q

-- the log has grown by one step, whose sequent is the last theorem, number `r`
pub record Appends (old new : Logged) (s : Step) (r : ℕ) : Type 0 where
  pub env : new.env ≡ old.env
  pub steps : new.steps ≡ old.steps ++ s ∷ []
  pub sequents : (q : Sequent) × ((sequent old.env s old.sequents ≡ Some q) × (new.sequents ≡ old.sequents ++ q ∷ []))
  pub at : r ≡ length old.sequents

-- what an attempt at a step answers: the new theorem, or a refusal exactly where the step has no sequent, with the
-- place that it would have had; a refusal leaves the log as it was
abbrev pub Attempts : Logged → Logged → Step → Result ThmId StepFault → Type 0
Attempts old new s (Ok r) = Appends old new s r.0
Attempts old new s (Err (Refused at)) = (sequent old.env s old.sequents ≡ None) × ((at ≡ length old.steps) × (new ≡ old))
Attempts old new s (Err NoMemory) = new ≡ old

-- what a rule answers where it may be used: the step is appended, or the log is as it was
abbrev pub Made : {E : Type 0} → Logged → Logged → Step → Result ThmId E → Type 0
Made old new s (Ok r) = Appends old new s r.0
Made old new s (Err e) = new ≡ old
