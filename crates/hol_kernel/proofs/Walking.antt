-- A list of steps, gone through from its front.
use Rattle.std.proofs.Common.{◌≡◌, ℕ, List, [], ◌∷◌, ◌++◌, length, take, slice_get, Err, Some, None, sym, ◌∙◌, ap, append_assoc, append-nil}
use Rattle.hol_terms.specs.declared.env.Env.{Env}
use Rattle.kernel_rules.specs.declared.step.Step.{Step}
use Rattle.kernel_rules.specs.Derivations.{derived, sequent}
use Rattle.hol_kernel.specs.declared.fault.StepFault.{StepFault}
use Rattle.hol_kernel.specs.declared.fault.StepFault.TheVariants.{Refused, NoMemory}
use Rattle.hol_kernel.specs.Logs.{Logged}
use Rattle.hol_kernel.specs.Growth.{Appends, Attempts}
use Rattle.hol_kernel.specs.Checking.{IsLogOf, IsFirstRefused, Checked}
use Rattle.hol_kernel.proofs.Places.{get_next, take_front}
use Rattle.hol_kernel.proofs.Growing.{appends_derives}

-- the log has the steps before the rest
pub record IsWalked (over : Env) (given : List Step) (log : Logged) (rest : List Step) : Type 0 where
  pub env : log.env ≡ over
  pub whole : given ≡ log.steps ++ rest
  pub follows : derived log.env log.steps ≡ Some log.sequents

pub walked_none : (over : Env) (given rest : List Step) (log : Logged) → log.env ≡ over → log.steps ≡ [] → log.sequents ≡ [] → rest ≡ given → IsWalked over given log rest
walked_none over given rest log env steps sequents whole = record {
  env = env;
  whole = sym whole ∙ ap (λ l. l ++ rest) (sym steps);
  follows = ap (λ l. derived log.env l) steps ∙ ap (λ l. Some l) (sym sequents);
}

moved : (front rest : List Step) (s : Step) → front ++ s ∷ rest ≡ (front ++ s ∷ []) ++ rest
moved front rest s = simp append_assoc

pub walked_one : (over : Env) (given rest : List Step) (s : Step) (old new : Logged) (r : ℕ) → IsWalked over given old (s ∷ rest) → Appends old new s r → IsWalked over given new rest
walked_one over given rest s old new r walked grown = record {
  env = grown.env ∙ walked.env;
  whole = walked.whole ∙ moved old.steps rest s ∙ ap (λ l. l ++ rest) (sym grown.steps);
  follows = appends_derives old new s r grown walked.follows;
}

pub walked_all : (over : Env) (given : List Step) (log : Logged) → IsWalked over given log [] → IsLogOf over given log
walked_all over given log walked =
    let whole : given ≡ log.steps = walked.whole ∙ append-nil log.steps in record {
      env = walked.env;
      steps = sym whole;
      follows = (λ i. derived (sym walked.env i) (whole i)) ∙ walked.follows;
    }

pub walked_refused : (over : Env) (given rest : List Step) (s : Step) (log : Logged) (at : ℕ) → IsWalked over given log (s ∷ rest) → sequent log.env s log.sequents ≡ None → at ≡ length log.steps → IsFirstRefused over given at
walked_refused over given rest s log at walked none place = record {
  done = log.sequents;
  before = (λ i. derived (sym walked.env i) (take (place i) (walked.whole i))) ∙ ap (derived log.env) (take_front log.steps (s ∷ rest)) ∙ walked.follows;
  step = s;
  is = (λ i. slice_get (walked.whole i) (place i)) ∙ get_next log.steps s rest;
  none = ap (λ e. sequent e s log.sequents) (sym walked.env) ∙ none;
}

-- what the walk answers where an attempt is refused
pub walked_fault : (over : Env) (given rest : List Step) (s : Step) (old new : Logged) (f : StepFault) → IsWalked over given old (s ∷ rest) → Attempts old new s (Err f) → Checked over given (Err f)
walked_fault over given rest s old new (Refused at) walked h = walked_refused over given rest s old at walked h.0 h.1.0
walked_fault over given rest s old new NoMemory walked h = tt
