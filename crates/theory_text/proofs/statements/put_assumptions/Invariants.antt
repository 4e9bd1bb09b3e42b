use Rattle.std.proofs.Common.{◌≡◌, ◌++◌, drop}
use Rattle.theory_print.specs.Lexemes.{laid}
use Rattle.theory_print.specs.Printing.{declared_in}
use Rattle.theory_text.specs.Printed.{assumption_items, FactsWritten}
use Rattle.theory_text.proofs.statements.put_assumptions.Given as goal

abbrev pub invariant-loop-f : goal.invariant-loop-f
invariant-loop-f l = FactsWritten l.names.number (declared_in l.names) l.facts →
    (l.initial.out ++ laid (assumption_items l.names.number (declared_in l.names) l.facts) ≡ l.out ++ laid (assumption_items l.names.number (declared_in l.names) (drop l.f-index l.facts)))
    × FactsWritten l.names.number (declared_in l.names) (drop l.f-index l.facts)
