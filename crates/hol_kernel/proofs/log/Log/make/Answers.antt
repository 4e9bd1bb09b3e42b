use Rattle.std.proofs.Common.{ap}
use Rattle.kernel_rules.specs.Derivations.{leaves}
use Rattle.hol_kernel.specs.Logs.{Logged}
use Rattle.hol_kernel.proofs.FactSteps.{appends_same_facts}
use Rattle.hol_kernel.proofs.Making.{not_refused}
use Rattle.hol_kernel.proofs.log.Log.make.Goals as goal

pub returns-in-Ok-clause-kept : goal.returns-in-Ok-clause-kept
returns-in-Ok-clause-kept c = c.in-Ok.ensures.kept

pub returns-in-Ok-clause-made : goal.returns-in-Ok-clause-made
returns-in-Ok-clause-made c = c.in-Ok.ensures.gives

pub returns-in-Err-NoMemory-clause-kept : goal.returns-in-Err-NoMemory-clause-kept
returns-in-Err-NoMemory-clause-kept c = c.in-Err-NoMemory.ensures.kept

pub returns-in-Err-NoMemory-clause-made : goal.returns-in-Err-NoMemory-clause-made
returns-in-Err-NoMemory-clause-made c = rw c.in-Err-NoMemory.field-0-is at c.in-Err-NoMemory.ensures.gives

pub unreachable-requires : goal.unreachable-requires
unreachable-requires c = let h = rw c.in-Err-Refused.field-0-is at c.in-Err-Refused.ensures.gives in not_refused _ c.requires h.0

pub unreachable-unreachable : goal.unreachable-unreachable
unreachable-unreachable c = c.unreachable.result

pub returns-in-Ok-clause-facts : goal.returns-in-Ok-clause-facts
returns-in-Ok-clause-facts c none = appends_same_facts _ _ _ _ none c.in-Ok.ensures.gives

pub returns-in-Err-NoMemory-clause-facts : goal.returns-in-Err-NoMemory-clause-facts
returns-in-Err-NoMemory-clause-facts c none = ap (λ (l : Logged). leaves l.steps) (rw c.in-Err-NoMemory.field-0-is at c.in-Err-NoMemory.ensures.gives)
