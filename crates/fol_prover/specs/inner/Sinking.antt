-- What the output took of a text, and the status that goes with it.
use Rattle.std.specs.Prelude.{ℕ, List, Option}
use Rattle.race_outside.specs.Causes.{Rose}
use Rattle.race_outside.specs.Sinks.{TookAll, TookSome}
use Rattle.fol_prover.specs.Replies.{Told}

abbrev pub told_by : Option (List ℕ) → Option (List ℕ) → ℕ → ℕ → Told
told_by taken now before after = record { taken = taken; now = now; before = before; after = after }

-- it took the whole text, or failed and took a beginning
pub data IsPut (o : Told) (text : List ℕ) (status : ℕ) : ℕ → Type 0 where
  whole : TookAll o.taken text o.now → IsPut o text status status
  part : TookSome o.taken text o.now → Rose o.before o.after → IsPut o text status 5
