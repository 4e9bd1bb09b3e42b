use Rattle.race_core.proofs.Legal.{after-is}
use Rattle.race_core.proofs.laws.winner_is_first_proved.Goals as goal

pub returns : goal.returns
returns c = λ n until es r h. (after-is n until es r h).winner
