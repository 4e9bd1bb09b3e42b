use Rattle.std.proofs.Common.{◌≡◌, ◌∙◌, ◌++◌, ◌+◌, ap, sym, take, drop, subst}
use Rattle.theory_print.specs.Lexemes.{laid}
use Rattle.theory_print.specs.Printing.{declared_in}
use Rattle.theory_text.specs.Printed.{fact_item, goal_items, goals_before, statements, FactsWritten, GoalsWritten}
use Rattle.theory_text.proofs.Laying.{step, opened, goals_parted}
use Rattle.theory_text.proofs.statements.put_statements.Goals as goal

pub loop-place-preserved : goal.loop-place-preserved
loop-place-preserved c = λ written stated.
    let k = c.args.names.now.number in
    let all = declared_in c.args.names.now in
    let facts = c.args.facts.now in
    let goals = c.loop-place.rest.now in
    let i = c.loop-place.place in
    let f = c.index-facts-place.result in
    let n = goals_before k all i goals in
    let later = statements k all (i + 1) (drop (i + 1) facts) (drop n goals) in
    let so_far = c.loop-place.invariant written stated in
    let rest = subst (FactsWritten k all) (opened facts i f c.loop-place-test.true c.index-facts-place.is (λ ys. ys)) so_far.1.0 in
    let both = goals_parted k all n goals so_far.1.1 in
    let front = subst (λ gs. c.put_goals.new.out ≡ c.loop-place.out ++ laid (goal_items k all gs)) c.parted.ensures.front
    (c.in_ok-put_goals.ensures (subst (GoalsWritten k all) (sym c.parted.ensures.front) both.0)) in
    let one = step c.args.out.now c.loop-place.out c.put_goals.new.out (statements k all 0 facts c.args.goals.now) (goal_items k all (take n goals)) (fact_item k all f ++ later)
    (so_far.0 ∙ ap (λ ys. c.loop-place.out ++ laid ys) (opened facts i f c.loop-place-test.true c.index-facts-place.is (λ fs. statements k all i fs goals)))
    front in
    let two = step c.args.out.now c.put_goals.new.out c.put_fact.new.out (statements k all 0 facts c.args.goals.now) (fact_item k all f) later one (c.in_ok-put_fact.ensures rest.0) in (
      subst (λ gs. c.args.out.now ++ laid (statements k all 0 facts c.args.goals.now) ≡ c.put_fact.new.out ++ laid (statements k all (i + 1) (drop (i + 1) facts) gs)) (sym c.parted.ensures.back) two,
      (rest.1, subst (GoalsWritten k all) (sym c.parted.ensures.back) both.1),
    )
