-- How a launcher stands that tells nothing of what its children are started with.
use Rattle.std.specs.Prelude.{[], None}
use Rattle.race_core.specs.Standings.{Standing}

-- nothing was done
abbrev pub unused : Standing
unused = record { starts = 0; orders = None; kills = []; waits = []; faults = 0; last = 0 }
