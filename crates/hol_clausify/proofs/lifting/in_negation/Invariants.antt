use Rattle.std.proofs.Common.{◌≡◌, ◌∷◌, take}
use Rattle.hol_clausify.proofs.lifting.in_negation.Given as goal

abbrev pub invariant-loop-number : goal.invariant-loop-number
invariant-loop-number l = l.longer ≡ 1 ∷ take l.number-index l.path
