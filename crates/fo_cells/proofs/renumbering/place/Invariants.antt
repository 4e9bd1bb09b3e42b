use Rattle.std.proofs.Common.{◌≡◌, ◌+◌, drop}
use Rattle.fo_terms.specs.Normal.{place_of}
use Rattle.fo_cells.proofs.renumbering.place.Given as goal

abbrev pub invariant-loop-i : goal.invariant-loop-i
invariant-loop-i l = place_of l.x l.noted ≡ l.i + place_of l.x (drop l.i l.noted)
