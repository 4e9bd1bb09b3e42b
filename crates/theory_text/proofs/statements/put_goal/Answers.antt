use Rattle.std.proofs.Common.{◌≡◌, [], ◌∷◌, ◌++◌, sym, subst}
use Rattle.theory_print.specs.Lexemes.{Name, Colon, GoalWord, Semi, laid}
use Rattle.theory_print.specs.Printing.{declared_in}
use Rattle.theory_text.specs.Printed.{shown, assumption_items, FactsWritten}
use Rattle.theory_text.proofs.Laying.{two, renamed}
use Rattle.theory_text.proofs.statements.put_goal.Goals as goal

pub returns : goal.returns
returns c = λ written assumed.
    let k = c.args.names.now.number in
    let all = declared_in c.args.names.now in
    let g = c.args.goal.now in
    let xs = shown k all g.formula in
    let ys = assumption_items k all g.assumes in
    let head = renamed c.args.out.now c.put_stated.new.out GoalWord c.as_slice.result.now g.name xs c.as_slice.ensures (c.in_ok-put_stated.ensures written) in
    let them = subst (λ fs. c.put_assumptions.new.out ≡ c.put_stated.new.out ++ laid (assumption_items k all fs)) c.as_slice-2.ensures
    (c.in_ok-put_assumptions.ensures (subst (FactsWritten k all) (sym c.as_slice-2.ensures) assumed)) in
    two c.args.out.now c.put_stated.new.out c.put_end.new.out (GoalWord ∷ Name g.name ∷ Colon ∷ xs) (ys ++ Semi ∷ []) head
    (two c.put_stated.new.out c.put_assumptions.new.out c.put_end.new.out ys (Semi ∷ []) them c.in_ok-put_end.ensures)
