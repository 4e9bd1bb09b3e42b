use Rattle.std.proofs.Common.{◌≡◌, ◌++◌, drop}
use Rattle.theory_print.specs.Lexemes.{laid}
use Rattle.theory_print.specs.Printing.{declared_in}
use Rattle.theory_text.specs.Printed.{type_items}
use Rattle.theory_text.proofs.statements.put_types.Given as goal

abbrev pub invariant-loop-name : goal.invariant-loop-name
invariant-loop-name l =
    l.initial.out ++ laid (type_items l.names.number (declared_in l.names) l.names.types.now) ≡ l.out ++ laid (type_items l.names.number (declared_in l.names) (drop l.name-index l.names.types.now))
