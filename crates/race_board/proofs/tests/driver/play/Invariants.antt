use Rattle.std.proofs.Common.{◌≡◌}
use Rattle.race_board.proofs.tests.driver.play.Given as goal

abbrev pub invariant-loop : goal.invariant-loop
invariant-loop g l = l.share.parts ≡ g.N.Ledger.parts

abbrev pub invariant-loop-step : goal.invariant-loop-step
invariant-loop-step g l = l.share.parts ≡ g.N.Ledger.parts
