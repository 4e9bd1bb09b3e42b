use Rattle.std.proofs.Common.{◌≡◌, map, take}
use Rattle.theory_reader.specs.inner.Pieces.{moved}
use Rattle.theory_reader.proofs.piece.placed.Given as goal

abbrev pub invariant-loop-token : goal.invariant-loop-token
invariant-loop-token l = l.out ≡ map (moved l.from) (take l.token-index l.cut)
