use Rattle.race_core.specs.declared.slot.SlotState.TheVariants.{Settled}
use Rattle.race_core.specs.Histories.{events_of}
use Rattle.race_core.proofs.Legal.{after-is}
use Rattle.race_core.proofs.Passages.{passage-of}
use Rattle.race_core.proofs.laws.settled_slots_passed_once.Goals as goal

pub returns : goal.returns
returns c =
    λ n until es r h settled k within. (let all = after-is n until es r h in
    let end = settled k within in
    passage-of k end.0 (events_of k es) (all.passed k (Settled end.0) end.1))
