use Rattle.std.proofs.lemmas.Result.{on_ok_weaker}
use Rattle.theory_print.proofs.Writing.{binder_bytes}
use Rattle.theory_print.proofs.term_printer.put_head.Goals as goal

pub returns : goal.returns
returns c =
    on_ok_weaker c.put-2.result
    (λ h. binder_bytes c.args.names.now c.args.depth c.args.q c.args.ty.now c.args.out.now _ _ _ _ _ c.in_ok-put_binder.ensures c.in_ok-put_variable.ensures c.in_ok-put.ensures c.in_ok-put_type.ensures h)
    c.put-2.ensures
