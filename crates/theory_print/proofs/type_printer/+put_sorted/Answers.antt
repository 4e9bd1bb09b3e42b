use Rattle.std.proofs.lemmas.Result.{on_ok_weaker}
use Rattle.theory_print.proofs.Laid.{function_bytes}
use Rattle.theory_print.proofs.type_printer.+put_sorted.Goals as goal

pub returns-in_ok-put_sorted-in-Arrow-2 : goal.returns-in_ok-put_sorted-in-Arrow-2
returns-in_ok-put_sorted-in-Arrow-2 t c =
    on_ok_weaker c.put_if-in-Arrow.result
    (λ h. function_bytes c.args.types.now c.in-Arrow.a c.in-Arrow.b _ _ c.args.ty.now c.args.single c.args.out.now _ _ _ _ _ c.in-Arrow.is c.get.ensures c.get-in-Arrow.ensures
    c.in_ok-put_if-in-Arrow.ensures c.in_ok-put_sorted-in-Arrow.ensures c.in_ok-put-in-Arrow.ensures c.in_ok-put_sorted-in-Arrow-2.ensures h)
    c.put_if-in-Arrow.ensures
