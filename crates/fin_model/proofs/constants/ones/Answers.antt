use Rattle.std.proofs.Common.{sym, arith}
use Rattle.fin_model.specs.inner.Constants.{one_of}
use Rattle.fin_model.proofs.High.{high_none, next_below, next_is, last_is}
use Rattle.fin_model.proofs.constants.ones.Goals as goal

pub loop-i-init : goal.loop-i-init
loop-i-init c = sym (high_none c.args.base c.args.count (one_of c.args.model.now c.args.k.now))

pub overflow_mul-number : goal.overflow_mul-number
overflow_mul-number c = let low = next_below c.loop-i.number c.args.base c.args.count c.loop-i.i 65536 (one_of c.args.model.now c.args.k.now) c.loop-i.invariant (omega arith) (λ a _. c.requires.each a) c.requires.small in omega arith

pub overflow_add-number : goal.overflow_add-number
overflow_add-number c = let low = next_below c.loop-i.number c.args.base c.args.count c.loop-i.i 65536 (one_of c.args.model.now c.args.k.now) c.loop-i.invariant (omega arith) (λ a _. c.requires.each a) c.requires.small in omega (arith, c.one.ensures)

pub loop-i-preserved : goal.loop-i-preserved
loop-i-preserved c = next_is c.loop-i.number c.args.base c.args.count c.loop-i.i c.one.result (one_of c.args.model.now c.args.k.now) c.loop-i.invariant c.one.ensures (omega arith)

pub returns : goal.returns
returns c = last_is c.loop-i.number c.args.base c.args.count c.loop-i.i (one_of c.args.model.now c.args.k.now) c.loop-i.invariant (omega arith)
