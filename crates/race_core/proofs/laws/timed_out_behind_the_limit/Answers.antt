use Rattle.race_core.specs.declared.event.Event.TheVariants.{Settle, Skip}
use Rattle.race_core.specs.declared.outcome.Verdict.TheVariants.{TimedOut}
use Rattle.race_core.proofs.Legal.{steps-at}
use Rattle.race_core.proofs.Timed.{timed-out-late, skipped-late}
use Rattle.race_core.proofs.laws.timed_out_behind_the_limit.Goals as goal

pub returns-clause-settled : goal.returns-clause-settled
returns-clause-settled c =
    λ n until es rest k h. (let at = steps-at n until es rest (Settle k TimedOut) h in timed-out-late n until es at.race at.next k at.is at.step)

pub returns-clause-skipped : goal.returns-clause-skipped
returns-clause-skipped c =
    λ n until es rest k h none. (let at = steps-at n until es rest (Skip k) h in skipped-late n until es at.race at.next k at.is at.before at.step none)
