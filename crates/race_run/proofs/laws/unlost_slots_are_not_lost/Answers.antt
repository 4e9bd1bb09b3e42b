use Rattle.race_run.proofs.Unlost.{not-lost}
use Rattle.race_run.proofs.laws.unlost_slots_are_not_lost.Goals as goal

pub returns : goal.returns
returns g c =
    let law = (g.met.W.Work g.world.𝓛 g.world.𝓜 g.world.𝓡 ((λ s x. x), (λ x. x), (λ x. x), λ x. x)).answers_bytes in
    λ terms until k kept o es right own i. not-lost (g.W.Work.answers terms.key) (law terms.key) terms until k kept o es right own i
