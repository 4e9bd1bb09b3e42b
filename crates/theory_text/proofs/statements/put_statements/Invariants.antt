use Rattle.std.proofs.Common.{◌≡◌, ◌++◌, drop}
use Rattle.theory_print.specs.Lexemes.{laid}
use Rattle.theory_print.specs.Printing.{declared_in}
use Rattle.theory_text.specs.Printed.{statements, FactsWritten, GoalsWritten}
use Rattle.theory_text.proofs.statements.put_statements.Given as goal

abbrev pub invariant-loop-place : goal.invariant-loop-place
invariant-loop-place l = FactsWritten l.names.number (declared_in l.names) l.facts → GoalsWritten l.names.number (declared_in l.names) l.goals →
    (l.initial.out ++ laid (statements l.names.number (declared_in l.names) 0 l.facts l.goals) ≡ l.out ++ laid (statements l.names.number (declared_in l.names) l.place (drop l.place l.facts) l.rest))
    × (FactsWritten l.names.number (declared_in l.names) (drop l.place l.facts) × GoalsWritten l.names.number (declared_in l.names) l.rest)
