use Rattle.std.proofs.Common.{◌≡◌, ◌++◌, drop}
use Rattle.theory_print.specs.Lexemes.{laid}
use Rattle.theory_print.specs.Printing.{declared_in}
use Rattle.theory_text.specs.Printed.{const_items}
use Rattle.theory_text.proofs.statements.put_consts.Given as goal

abbrev pub invariant-loop-c : goal.invariant-loop-c
invariant-loop-c l =
    l.initial.out ++ laid (const_items l.names.number (declared_in l.names) l.names.consts.now) ≡ l.out ++ laid (const_items l.names.number (declared_in l.names) (drop l.c-index l.names.consts.now))
