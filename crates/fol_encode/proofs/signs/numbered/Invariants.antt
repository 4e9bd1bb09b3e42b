use Rattle.std.proofs.Common.{◌≡◌, map, length, []}
use Rattle.fol_encode.specs.Signs.{sign_key, once, symbols_of}
use Rattle.fol_encode.proofs.signs.numbered.Given as goal

abbrev pub invariant-loop-s : goal.invariant-loop-s
invariant-loop-s l =
    record { so : once l.signs l.left ≡ once [] l.fn.gathered; keyed : l.keys ≡ map sign_key l.signs; meant : l.symbols ≡ symbols_of l.table l.signs }

abbrev pub decreases-loop-s : goal.decreases-loop-s
decreases-loop-s l = length l.left
