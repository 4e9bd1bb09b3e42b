use Rattle.race_laws.proofs.Unwon.{all_heard}
use Rattle.race_laws.proofs.laws.unwon_sound_slots_were_heard.Goals as goal

pub returns : goal.returns
returns g c =
    let law = (g.met.W.Work g.world.𝓛 g.world.𝓜 g.world.𝓡 ((λ s x. x), (λ x. x), (λ x. x), λ x. x)).answers_bytes in
    λ terms until es legal none timely started sound k kept o right full unlost.
    all_heard (g.W.Work.answers terms.key) (law terms.key) terms until es legal none timely started sound k kept o right full unlost
