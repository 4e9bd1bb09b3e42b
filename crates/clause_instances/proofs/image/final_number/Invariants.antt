use Rattle.std.proofs.Common.{◌≡◌, ◌+◌, drop}
use Rattle.tagged_lines.specs.Variables.{final_number}
use Rattle.clause_instances.proofs.image.final_number.Given as goal

abbrev pub invariant-loop-i : goal.invariant-loop-i
invariant-loop-i l = final_number l.seen l.x ≡ l.i + final_number (drop l.i l.seen) l.x
