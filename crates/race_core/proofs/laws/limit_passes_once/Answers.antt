use Rattle.std.proofs.Common.{sym, ◌∙◌}
use Rattle.race_core.specs.declared.event.Event.TheVariants.{Expire}
use Rattle.race_core.proofs.Legal.{after-is, steps-at}
use Rattle.race_core.proofs.Stepped.{expired-some, is_open-true}
use Rattle.race_core.proofs.Moved.{due-is}
use Rattle.race_core.proofs.laws.limit_passes_once.Goals as goal

pub returns-clause-late : goal.returns-clause-late
returns-clause-late c = λ n until es r h. (after-is n until es r h).late

pub returns-clause-due : goal.returns-clause-due
returns-clause-due c =
    λ n until es rest m h. (let at = steps-at n until es rest (Expire m) h in
    due-is at.race.until until m at.before.limit (expired-some at.race m at.next at.step).1)

pub returns-clause-win : goal.returns-clause-win
returns-clause-win c =
    λ n until es rest m h. (let at = steps-at n until es rest (Expire m) h in
    sym at.before.winner ∙ (is_open-true at.race (expired-some at.race m at.next at.step).0).0)
