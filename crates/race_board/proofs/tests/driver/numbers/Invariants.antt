use Rattle.std.proofs.Common.{◌<◌, ◌^◌, All}
use Rattle.race_board.proofs.tests.driver.numbers.Given as goal

abbrev pub invariant-loop-number : goal.invariant-loop-number
invariant-loop-number l = All (λ m. m < 2 ^ 63) l.all
