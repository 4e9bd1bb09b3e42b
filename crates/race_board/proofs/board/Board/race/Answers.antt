use Rattle.std.proofs.Common.{arith, ap, sym, length, ◌∙◌}
use Rattle.race_board.specs.Boards.{View}
use Rattle.race_board.proofs.Moving.{history-is, ends-length}
use Rattle.race_board.proofs.board.Board.race.Goals as goal

pub returns-clause-slots : goal.returns-clause-slots
returns-clause-slots g c = (history-is _ _ _ _ _ _ c.self.invariant.0).slots

pub returns-clause-few : goal.returns-clause-few
returns-clause-few g c =
    let b = c.self.invariant.0 in
    omega (arith, b.few, (history-is _ _ _ _ _ _ b).slots)

pub returns-clause-ends : goal.returns-clause-ends
returns-clause-ends g c =
    let b = c.self.invariant.0 in
    ap (λ (v : View _). length v.ends) (sym c.self.view_is) ∙ ends-length _ _ _ _ _ _ b ∙ (history-is _ _ _ _ _ _ b).slots
