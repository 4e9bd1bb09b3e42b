use Rattle.std.proofs.Common.{sym, arith}
use Rattle.fin_model.specs.inner.Constants.{two_of}
use Rattle.fin_model.proofs.High.{high_none, next_below, next_is, last_is}
use Rattle.fin_model.proofs.Bare.{two_below}
use Rattle.fin_model.proofs.constants.row.Goals as goal

pub loop-i-init : goal.loop-i-init
loop-i-init c = sym (high_none 2 c.args.count (two_of c.args.k.now c.args.x))

pub overflow_mul-number : goal.overflow_mul-number
overflow_mul-number c = let low = next_below c.loop-i.number 2 c.args.count c.loop-i.i 65536 (two_of c.args.k.now c.args.x) c.loop-i.invariant (omega arith) (λ a _. two_below c.args.k.now c.args.x a) c.requires in omega arith

pub overflow_add-number : goal.overflow_add-number
overflow_add-number c = let low = next_below c.loop-i.number 2 c.args.count c.loop-i.i 65536 (two_of c.args.k.now c.args.x) c.loop-i.invariant (omega arith) (λ a _. two_below c.args.k.now c.args.x a) c.requires in omega (arith, c.two.ensures)

pub loop-i-preserved : goal.loop-i-preserved
loop-i-preserved c = next_is c.loop-i.number 2 c.args.count c.loop-i.i c.two.result (two_of c.args.k.now c.args.x) c.loop-i.invariant c.two.ensures (omega arith)

pub returns : goal.returns
returns c = last_is c.loop-i.number 2 c.args.count c.loop-i.i (two_of c.args.k.now c.args.x) c.loop-i.invariant (omega arith)
