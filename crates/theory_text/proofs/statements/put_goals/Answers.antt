use Rattle.std.proofs.Common.{◌∙◌, ◌++◌, ◌+◌, ap, drop, subst}
use Rattle.theory_print.specs.Lexemes.{laid}
use Rattle.theory_print.specs.Printing.{declared_in}
use Rattle.theory_text.specs.Printed.{goal_item, goal_items, GoalsWritten}
use Rattle.theory_text.proofs.Laying.{step, opened}
use Rattle.theory_text.proofs.statements.put_goals.Goals as goal

pub loop-g-preserved : goal.loop-g-preserved
loop-g-preserved c = λ written.
    let k = c.args.names.now.number in
    let all = declared_in c.args.names.now in
    let goals = c.args.goals.now in
    let g = c.g-item.result in
    let so_far = c.loop-g.invariant written in
    let rest = subst (GoalsWritten k all) (opened goals c.loop-g.g-index g c.loop-g-test.true c.g-item.is (λ ys. ys)) so_far.1 in (
      step c.args.out.now c.loop-g.out c.put_goal.new.out (goal_items k all goals) (goal_item k all g) (goal_items k all (drop (c.loop-g.g-index + 1) goals))
          (so_far.0 ∙ ap (λ ys. c.loop-g.out ++ laid ys) (opened goals c.loop-g.g-index g c.loop-g-test.true c.g-item.is (goal_items k all)))
          (c.in_ok-put_goal.ensures rest.0.0 rest.0.1),
      rest.1,
    )
