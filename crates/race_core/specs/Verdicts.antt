-- The verdict of an outcome.
use Rattle.race_core.specs.declared.outcome.Outcome.{Outcome}
use Rattle.race_core.specs.declared.outcome.Outcome.TheVariants as outcome
use Rattle.race_core.specs.declared.outcome.Verdict.{Verdict}
use Rattle.race_core.specs.declared.outcome.Verdict.TheVariants as verdict

-- the kind of an outcome, without what it carries
abbrev pub verdict_of : {P : Type 0} → Outcome P → Verdict
verdict_of (outcome.Proved p) = verdict.Proved
verdict_of outcome.NoStart = verdict.NoStart
verdict_of (outcome.Lost i) = verdict.Lost
verdict_of outcome.ReadFault = verdict.ReadFault
verdict_of outcome.TooLong = verdict.TooLong
verdict_of outcome.NoStatus = verdict.NoStatus
verdict_of outcome.NoProof = verdict.NoProof
verdict_of (outcome.BadText at) = verdict.BadText
verdict_of outcome.Saturated = verdict.Saturated
verdict_of outcome.Spent = verdict.Spent
verdict_of outcome.TimedOut = verdict.TimedOut
verdict_of outcome.Cancelled = verdict.Cancelled
verdict_of outcome.NoMemory = verdict.NoMemory
