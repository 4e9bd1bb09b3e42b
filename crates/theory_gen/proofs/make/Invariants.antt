use Rattle.std.proofs.Common.{◌≡◌, ◌++◌}
use Rattle.theory_gen.specs.Generated.{constant, fact, lines_below}
use Rattle.theory_gen.proofs.make.Given as goal

abbrev pub invariant-loop-i : goal.invariant-loop-i
invariant-loop-i l = l.out ≡ lines_below constant l.i

abbrev pub invariant-loop-j : goal.invariant-loop-j
invariant-loop-j l = l.out ≡ lines_below constant l.n ++ lines_below fact l.j
