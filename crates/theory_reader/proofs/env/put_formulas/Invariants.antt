use Rattle.std.proofs.Common.{◌≡◌, ◌++◌, map, take}
use Rattle.theory_reader.proofs.env.put_formulas.Given as goal

abbrev pub invariant-loop-f : goal.invariant-loop-f
invariant-loop-f l = l.out ≡ l.initial.out ++ map (λ f. f.formula) (take l.f-index l.facts)
