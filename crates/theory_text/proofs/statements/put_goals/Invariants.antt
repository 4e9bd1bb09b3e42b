use Rattle.std.proofs.Common.{◌≡◌, ◌++◌, drop}
use Rattle.theory_print.specs.Lexemes.{laid}
use Rattle.theory_print.specs.Printing.{declared_in}
use Rattle.theory_text.specs.Printed.{goal_items, GoalsWritten}
use Rattle.theory_text.proofs.statements.put_goals.Given as goal

abbrev pub invariant-loop-g : goal.invariant-loop-g
invariant-loop-g l = GoalsWritten l.names.number (declared_in l.names) l.goals →
    (l.initial.out ++ laid (goal_items l.names.number (declared_in l.names) l.goals) ≡ l.out ++ laid (goal_items l.names.number (declared_in l.names) (drop l.g-index l.goals)))
    × GoalsWritten l.names.number (declared_in l.names) (drop l.g-index l.goals)
