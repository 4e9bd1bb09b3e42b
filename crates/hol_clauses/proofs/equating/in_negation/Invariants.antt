use Rattle.std.proofs.Common.{◌≡◌, ◌∷◌, take}
use Rattle.hol_clauses.proofs.equating.in_negation.Given as goal

abbrev pub invariant-loop-number : goal.invariant-loop-number
invariant-loop-number l = l.longer ≡ 1 ∷ take l.number-index l.path
