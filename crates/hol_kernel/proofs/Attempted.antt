-- What an attempt at a step answers.
use Rattle.std.proofs.Common.{◌≡◌, Ok, Err, Some, sym, subst}
use Rattle.std.specs.Prelude.{Result}
use Rattle.kernel_rules.specs.declared.step.Step.{Step}
use Rattle.kernel_rules.specs.declared.step.ThmId.{ThmId}
use Rattle.kernel_rules.specs.Derivations.{derived}
use Rattle.hol_kernel.specs.declared.fault.StepFault.{StepFault}
use Rattle.hol_kernel.specs.declared.fault.StepFault.TheVariants.{Refused, NoMemory}
use Rattle.hol_kernel.specs.Logs.{Logged}
use Rattle.hol_kernel.specs.Growth.{Extends, Attempts}
use Rattle.hol_kernel.proofs.Growing.{extends_same, appends_extends, appends_derives}

-- earlier steps and theorems stay, whatever it answers
pub attempts_extends : (old new : Logged) (s : Step) (r : Result ThmId StepFault) → Attempts old new s r → Extends old new
attempts_extends old new s (Ok r) h = appends_extends old new s r.0 h
attempts_extends old new s (Err (Refused at)) h = extends_same old new h.1.1
attempts_extends old new s (Err NoMemory) h = extends_same old new h

-- a log with a derivation keeps one
pub attempts_derives : (old new : Logged) (s : Step) (r : Result ThmId StepFault) → Attempts old new s r → derived old.env old.steps ≡ Some old.sequents → derived new.env new.steps ≡ Some new.sequents
attempts_derives old new s (Ok r) h follows = appends_derives old new s r.0 h follows
attempts_derives old new s (Err (Refused at)) h follows = subst (λ l. derived l.env l.steps ≡ Some l.sequents) (sym h.1.1) follows
attempts_derives old new s (Err NoMemory) h follows = subst (λ l. derived l.env l.steps ≡ Some l.sequents) (sym h) follows
