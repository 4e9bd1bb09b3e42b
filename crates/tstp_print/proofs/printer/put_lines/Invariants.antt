use Rattle.std.proofs.Common.{◌≡◌, ◌++◌, take}
use Rattle.std.specs.List.{flat_map}
use Rattle.tstp_print.specs.Lines.{line_at}
use Rattle.tstp_print.proofs.printer.put_lines.Given as goal

abbrev pub invariant-loop-n : goal.invariant-loop-n
invariant-loop-n l = l.out ≡ l.initial.out ++ flat_map (line_at l.problem l.sources l.lines) (take l.n-index l.numbers)
