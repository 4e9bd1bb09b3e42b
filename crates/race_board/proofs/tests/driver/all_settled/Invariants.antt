use Rattle.std.proofs.Common.{◌≡◌, All, take, true}
use Rattle.race_board.specs.Boards.{is_settled}
use Rattle.race_board.proofs.tests.driver.all_settled.Given as goal

abbrev pub invariant-loop-state : goal.invariant-loop-state
invariant-loop-state l = All (λ s. is_settled s ≡ true) (take l.state-index l.race.slots)
