use Rattle.race_core.specs.declared.event.Event.TheVariants.{Settle}
use Rattle.race_core.proofs.Legal.{steps-at}
use Rattle.race_core.proofs.Moved.{settle-behind}
use Rattle.race_core.proofs.laws.reaped_before_settled.Goals as goal

pub returns : goal.returns
returns c =
    λ n until es rest k v h. (let at = steps-at n until es rest (Settle k v) h in
    settle-behind n until es at.race at.next k v at.before at.step)
