use Rattle.std.proofs.Common.{◌≡◌, ◌++◌, drop}
use Rattle.theory_reader.specs.Seen.{seen}
use Rattle.slot_work.specs.Visible.{places_from}
use Rattle.slot_work.specs.Answers.{is_used, used_facts}
use Rattle.slot_work.proofs.using.used_among.Given as goal

abbrev pub invariant-loop-i : goal.invariant-loop-i
invariant-loop-i l = l.out ++ places_from l.i (is_used l.theory l.leaves) (drop l.i (seen l.theory l.goal)) ≡ used_facts l.theory l.goal l.leaves
