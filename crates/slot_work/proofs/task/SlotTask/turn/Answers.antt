use Rattle.std.proofs.Common.{sym, ap, subst}
use Rattle.slot_work.specs.Answers.{Answers}
use Rattle.slot_work.specs.inner.Tasks.{is_over}
use Rattle.slot_work.proofs.task.SlotTask.turn.Goals as goal

pub returns-in-Ends-clause-answer : goal.returns-in-Ends-clause-answer
returns-in-Ends-clause-answer c =
    let s = c.self.inside.slot in (
      ap is_over c.replace-stage.ensures.after,
      record {
        theory = s.theory.now;
        goal = s.goal;
        budget = s.budget;
        key_is = ap (λ w. w.key) (sym c.self.view_is);
        answers = subst (λ bytes. Answers s.theory.now s.goal s.budget bytes c.in-Ends.outcome) (ap (λ w. w.bytes) c.self.view_is) c.in-Ends.ensures;
      },
    )
