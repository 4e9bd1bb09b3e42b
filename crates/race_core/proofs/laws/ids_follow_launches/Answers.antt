use Rattle.std.proofs.Common.{arith}
use Rattle.race_core.specs.declared.event.Event.TheVariants.{Launch}
use Rattle.race_core.specs.declared.slot.SlotState.TheVariants.{Waiting}
use Rattle.race_core.specs.Histories.{launched}
use Rattle.race_core.proofs.Legal.{legal-is, steps-at}
use Rattle.race_core.proofs.Moved.{launch-moves}
use Rattle.race_core.proofs.Ids.{place-unique, place-within, id-none, id-some, id-launched, id-launches}
use Rattle.race_core.proofs.laws.ids_follow_launches.Goals as goal

pub returns-clause-given : goal.returns-clause-given
returns-clause-given c = λ first es k. (id-launches first es k, id-some first es k)

pub returns-clause-value : goal.returns-clause-value
returns-clause-value c =
    λ n until es rest first k h. (let at = steps-at n until es rest (Launch k) h in
    id-launched first es rest k (id-none first es k (at.before.passed k Waiting (launch-moves at.race at.next k at.step).at)))

pub returns-clause-unique : goal.returns-clause-unique
returns-clause-unique c = λ first es j k i d e. place-unique first (launched es) j k i d e

pub returns-clause-range : goal.returns-clause-range
returns-clause-range c =
    λ n until es h first k i e. (let all = legal-is n until es h in
    let within = place-within first (launched es) k i e in
    (within.0, omega (arith, within.1, all.1.few)))
