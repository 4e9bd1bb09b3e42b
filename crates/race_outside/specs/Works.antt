-- What a work may answer.
use Rattle.std.specs.Prelude.{Bool, true, false}
use Rattle.race_core.specs.declared.outcome.Outcome.{Outcome}
use Rattle.race_core.specs.declared.outcome.Outcome.TheVariants as outcome

-- an outcome that a child's bytes can have: the others are for what befell the child
abbrev pub is_answer : {P : Type 0} → Outcome P → Bool
is_answer outcome.NoStart = false
is_answer (outcome.Lost i) = false
is_answer outcome.ReadFault = false
is_answer outcome.TooLong = false
is_answer outcome.TimedOut = false
is_answer outcome.Cancelled = false
is_answer _ = true
