use Rattle.std.proofs.Common.{◌≡◌, ◌++◌, drop}
use Rattle.sledge_engine.specs.Reports.{numbers_text}
use Rattle.sledge_engine.proofs.reports.put_numbers.Given as goal

abbrev pub invariant-loop-n : goal.invariant-loop-n
invariant-loop-n l = l.text ++ numbers_text (drop l.n-index l.numbers) ≡ l.initial.text ++ numbers_text l.numbers
