use Rattle.std.proofs.Common.{◌≡◌, ◌++◌, take}
use Rattle.std.specs.List.{flat_map}
use Rattle.tstp_print.specs.Lines.{statement_at}
use Rattle.tstp_print.proofs.printer.put_statements.Given as goal

abbrev pub invariant-loop-n : goal.invariant-loop-n
invariant-loop-n l = l.out ≡ l.initial.out ++ flat_map (statement_at l.problem) (take l.n-index l.numbers)
