-- How many pipes a worker hands back.
use Rattle.std.specs.Prelude.{ℕ, Option, Some, None}

abbrev pub handed : {B : Type 0} → Option B → ℕ
handed None = 0
handed (Some back) = 1
