use Rattle.std.proofs.lemmas.Result.{on_ok_weaker}
use Rattle.theory_print.specs.Shapes.{part_of}
use Rattle.theory_print.proofs.Writing.{apply_writes, equals_writes, not_writes, join_writes, bind_writes}
use Rattle.theory_print.proofs.term_printer.+terms.Goals as goal

pub put_apply-returns : goal.put_apply-returns
put_apply-returns t c =
    on_ok_weaker c.close.result
    (λ h. apply_writes c.args.names.now c.args.depth c.args.sort c.args.out.now _ (part_of c.args.f.now) (part_of c.args.x.now) _ _ _ _ _ c.in_ok-open.ensures c.in_ok-put_term.ensures c.in_ok-put_term-2.ensures h)
    c.close.ensures

pub put_equals-returns : goal.put_equals-returns
put_equals-returns t c =
    on_ok_weaker c.close.result
    (λ h. equals_writes c.args.names.now c.args.depth c.args.sort c.args.out.now _ (part_of c.args.a.now) (part_of c.args.b.now) _ _ _ _ _ _ c.in_ok-open.ensures c.in_ok-put_term.ensures c.in_ok-put.ensures c.in_ok-put_term-2.ensures h)
    c.close.ensures

pub put_not-returns : goal.put_not-returns
put_not-returns t c =
    on_ok_weaker c.close.result
    (λ h. not_writes c.args.names.now c.args.depth c.args.sort c.args.out.now _ (part_of c.args.a.now) _ _ _ _ c.in_ok-open.ensures c.in_ok-put.ensures c.in_ok-put_term.ensures h)
    c.close.ensures

pub put_join-returns : goal.put_join-returns
put_join-returns t c =
    on_ok_weaker c.close.result
    (λ h. join_writes c.args.names.now c.args.depth c.args.sort c.args.out.now _ c.args.op (part_of c.args.a.now) (part_of c.args.b.now) _ _ _ _ _ _ _ _ c.left_of.ensures c.right_of.ensures c.in_ok-open.ensures c.in_ok-put_term.ensures c.in_ok-put_sign.ensures c.in_ok-put_term-2.ensures h)
    c.close.ensures

pub put_bind-returns : goal.put_bind-returns
put_bind-returns t c =
    on_ok_weaker c.close.result
    (λ h. bind_writes c.args.names.now c.args.depth c.args.sort c.args.out.now _ c.args.q c.args.ty.now (part_of c.args.body.now) _ _ _ _ c.in_ok-open.ensures c.in_ok-put_head.ensures c.in_ok-put_term.ensures h)
    c.close.ensures
