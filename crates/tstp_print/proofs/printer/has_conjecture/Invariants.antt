use Rattle.std.proofs.Common.{◌≡◌, drop}
use Rattle.std.specs.List.{list_any}
use Rattle.tstp_print.specs.Lines.{is_conjecture}
use Rattle.tstp_print.proofs.printer.has_conjecture.Given as goal

abbrev pub invariant-loop-s : goal.invariant-loop-s
invariant-loop-s l = list_any is_conjecture (drop l.s-index l.statements) ≡ list_any is_conjecture l.statements
