use Rattle.std.proofs.Common.{◌≡◌, ◌++◌, take}
use Rattle.goal_search.specs.Encoded.{atoms_in}
use Rattle.goal_search.proofs.encoding.put_atoms.Given as goal

abbrev pub invariant-loop-literal : goal.invariant-loop-literal
invariant-loop-literal l = l.out ≡ l.initial.out ++ atoms_in (take l.literal-index l.literals)
