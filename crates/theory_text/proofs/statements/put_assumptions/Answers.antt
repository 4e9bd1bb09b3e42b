use Rattle.std.proofs.Common.{◌∙◌, ◌++◌, ◌∷◌, ◌+◌, ap, drop, subst}
use Rattle.theory_print.specs.Lexemes.{laid, Name, Colon, AssumeWord}
use Rattle.theory_print.specs.Printing.{declared_in}
use Rattle.theory_text.specs.Printed.{shown, assumption_items, FactsWritten}
use Rattle.theory_text.proofs.Laying.{step, opened, renamed}
use Rattle.theory_text.proofs.statements.put_assumptions.Goals as goal

pub loop-f-preserved : goal.loop-f-preserved
loop-f-preserved c = λ written.
    let k = c.args.names.now.number in
    let all = declared_in c.args.names.now in
    let facts = c.args.facts.now in
    let f = c.f-item.result in
    let so_far = c.loop-f.invariant written in
    let rest = subst (FactsWritten k all) (opened facts c.loop-f.f-index f c.loop-f-test.true c.f-item.is (λ ys. ys)) so_far.1 in (
      step c.args.out.now c.loop-f.out c.put_stated.new.out (assumption_items k all facts) (AssumeWord ∷ Name f.name ∷ Colon ∷ shown k all f.formula)
          (assumption_items k all (drop (c.loop-f.f-index + 1) facts))
          (so_far.0 ∙ ap (λ ys. c.loop-f.out ++ laid ys) (opened facts c.loop-f.f-index f c.loop-f-test.true c.f-item.is (assumption_items k all)))
          (renamed c.loop-f.out c.put_stated.new.out AssumeWord c.as_slice.result.now f.name (shown k all f.formula) c.as_slice.ensures (c.in_ok-put_stated.ensures rest.0)),
      rest.1,
    )
