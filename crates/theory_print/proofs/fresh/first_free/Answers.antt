use Rattle.std.proofs.Common.{◌<◌, ◌≤◌, ◌^◌, arith}
use Rattle.theory_print.proofs.FirstFree.{one_is_free}
use Rattle.theory_print.proofs.fresh.first_free.Goals as goal

pub returns : goal.returns
returns c =
    let low : c.len.result < 2 ^ 32 = omega arith in
    let all : c.len.result ≤ c.loop-number.number = omega (arith, c.loop-number-test.false, c.len.ensures, c.len-number-end.ensures) in
    (low, one_is_free c.args.set.now c.len.result c.len.ensures low (λ j less. c.loop-number.invariant j (omega arith)), λ j less. c.loop-number.invariant j (omega arith))
