use Rattle.std.proofs.Common.{◌∙◌, ◌++◌, ◌+◌, ap, drop}
use Rattle.theory_print.specs.Lexemes.{laid}
use Rattle.theory_print.specs.Printing.{declared_in}
use Rattle.theory_text.specs.Printed.{const_item, const_items}
use Rattle.theory_text.proofs.Laying.{step, opened}
use Rattle.theory_text.proofs.statements.put_consts.Goals as goal

pub loop-c-preserved : goal.loop-c-preserved
loop-c-preserved c =
    let k = c.args.names.now.number in
    let all = declared_in c.args.names.now in
    let consts = c.args.names.now.consts.now in
    step c.args.out.now c.loop-c.out c.put_const.new.out (const_items k all consts) (const_item k all c.c-item.result) (const_items k all (drop (c.loop-c.c-index + 1) consts))
    (c.loop-c.invariant ∙ ap (λ ys. c.loop-c.out ++ laid ys) (opened consts c.loop-c.c-index c.c-item.result c.loop-c-test.true c.c-item.is (const_items k all)))
    c.in_ok-put_const.ensures
