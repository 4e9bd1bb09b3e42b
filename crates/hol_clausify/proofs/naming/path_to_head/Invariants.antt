use Rattle.std.proofs.Common.{◌≡◌, ◌∷◌, take, map}
use Rattle.hol_clausify.proofs.naming.path_to_head.Given as goal

abbrev pub invariant-loop-variable : goal.invariant-loop-variable
invariant-loop-variable l = l.path ≡ 1 ∷ map (λ v. 0) (take l._variable-index l.rest)
