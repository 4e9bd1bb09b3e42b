use Rattle.std.proofs.Common.{◌≡◌, ◌∷◌, take}
use Rattle.hol_derived.proofs.contracting.to_right.Given as goal

abbrev pub invariant-loop-number : goal.invariant-loop-number
invariant-loop-number l = l.path ≡ 1 ∷ (l.side ∷ take l.number-index l.more)
