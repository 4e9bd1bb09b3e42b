-- How a replay may end, and what is called for before it.
use Rattle.std.specs.Prelude.{ℕ, Bool, true, false, Option, Some, None}
use Rattle.race_core.specs.declared.outcome.Outcome.{Outcome}
use Rattle.race_core.specs.declared.outcome.Outcome.TheVariants as outcome

-- with what the work answers for the bytes, or for want of memory
abbrev pub MayAnswer : {P : Type 0} → (Outcome P → Type 0) → Outcome P → Type 0
MayAnswer answers outcome.NoMemory = Unit {0}
MayAnswer answers outcome.Cancelled = ⊥
MayAnswer answers o = answers o

-- the end that is called for with no look at the bytes, if any
abbrev pub early_end : {P : Type 0} → (lost : Option ℕ) → (failed short long : Bool) → Option (Outcome P)
early_end (Some i) failed short long = Some (outcome.Lost i)
early_end None true short long = Some outcome.ReadFault
early_end None false true long = Some outcome.NoMemory
early_end None false false true = Some outcome.TooLong
early_end None false false false = None
