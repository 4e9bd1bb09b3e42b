use Rattle.std.proofs.Common.{◌≡◌, ◌++◌, drop, map}
use Rattle.sledge_engine.proofs.problem.numbers.Given as goal

abbrev pub invariant-loop-c : goal.invariant-loop-c
invariant-loop-c l = l.out ++ map (λ c. c.fact) (drop l.c-index l.chosen) ≡ map (λ c. c.fact) l.chosen
