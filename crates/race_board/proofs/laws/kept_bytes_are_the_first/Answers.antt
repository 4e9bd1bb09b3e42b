use Rattle.race_board.proofs.Followed.{first-bytes}
use Rattle.race_board.proofs.laws.kept_bytes_are_the_first.Goals as goal

pub returns : goal.returns
returns g c = λ terms until k kept o es right read sound. first-bytes (g.W.Work.answers terms.key) terms until k kept o es right read sound
