use Rattle.race_laws.proofs.Winning.{won_end}
use Rattle.race_laws.proofs.laws.winner_has_the_proof.Goals as goal

pub returns : goal.returns
returns g c = λ n until es r ends k legal settled won. (let e = won_end n until es r ends k legal settled won in (e.end, e.proof, e.at, e.is))
