use Rattle.std.proofs.Common.{◌≡◌, take}
use Rattle.std.specs.List.{flat_map}
use Rattle.pair_marks.specs.Marking.{side_needs}
use Rattle.pair_marks.proofs.listing.sides_of.Given as goal

abbrev pub invariant-loop-l : goal.invariant-loop-l
invariant-loop-l l = l.out ≡ flat_map side_needs (take l.l-index l.literals)
