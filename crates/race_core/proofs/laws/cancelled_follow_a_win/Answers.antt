use Rattle.std.proofs.Common.{ap, sym, ◌∙◌}
use Rattle.std.specs.Prelude.{is_some}
use Rattle.race_core.specs.declared.event.Event.TheVariants.{Settle}
use Rattle.race_core.specs.declared.outcome.Verdict.TheVariants.{Cancelled}
use Rattle.race_core.proofs.Legal.{after-is, steps-at}
use Rattle.race_core.proofs.Moved.{cancelled-behind}
use Rattle.race_core.proofs.laws.cancelled_follow_a_win.Goals as goal

pub returns-clause-event : goal.returns-clause-event
returns-clause-event c =
    λ n until es rest k h. (let at = steps-at n until es rest (Settle k Cancelled) h in
    sym (ap is_some at.before.winner) ∙ cancelled-behind at.race at.next k at.step)

pub returns-clause-state : goal.returns-clause-state
returns-clause-state c =
    λ n until es r h k is. (let all = after-is n until es r h in sym (ap is_some all.winner) ∙ all.cancelled k is)
