use Rattle.race_laws.proofs.Unwon.{heard_end}
use Rattle.race_laws.proofs.laws.heard_slots_are_answered.Goals as goal

pub returns : goal.returns
returns g c = λ terms until k kept o es right read sound. heard_end (g.W.Work.answers terms.key) terms until k kept o es right read sound
