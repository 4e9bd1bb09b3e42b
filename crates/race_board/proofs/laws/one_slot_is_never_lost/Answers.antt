use Rattle.race_board.proofs.Followed.{one-slot}
use Rattle.race_board.proofs.laws.one_slot_is_never_lost.Goals as goal

pub returns : goal.returns
returns g c = λ terms until k kept o es one legal right. one-slot (g.W.Work.answers terms.key) terms until k kept o es one legal right
