use Rattle.race_board.proofs.Finishing.{hands-verdicts, hands-right}
use Rattle.race_board.proofs.board.Board.finish.Goals as goal

pub returns-clause-verdicts : goal.returns-clause-verdicts
returns-clause-verdicts g c = hands-verdicts _ _ _ _ _ _ _ _ c.self.invariant.0 c.self.view_is c.from_vec-2.ensures c.requires.settled

pub returns-clause-right : goal.returns-clause-right
returns-clause-right g c = hands-right _ _ _ _ _ _ _ _ _ c.self.invariant.0 c.self.view_is c.from_vec-2.ensures c.from_vec.ensures c.requires.settled
