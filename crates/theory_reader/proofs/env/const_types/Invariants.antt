use Rattle.std.proofs.Common.{◌≡◌, map, take}
use Rattle.theory_reader.proofs.env.const_types.Given as goal

abbrev pub invariant-loop-c : goal.invariant-loop-c
invariant-loop-c l = l.out ≡ map (λ c. c.ty) (take l.c-index l.consts)
