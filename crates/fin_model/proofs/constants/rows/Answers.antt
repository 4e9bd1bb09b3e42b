use Rattle.std.proofs.Common.{ℕ, ◌≤◌, sym, subst, arith}
use Rattle.model_truth.specs.Numbers.{number}
use Rattle.fin_model.specs.inner.Constants.{two_of}
use Rattle.fin_model.proofs.High.{high_none, next_below, next_is, last_is}
use Rattle.fin_model.proofs.Bare.{row_below, rows_some}
use Rattle.fin_model.proofs.Powers.{base_below}
use Rattle.fin_model.proofs.constants.rows.Goals as goal

pub loop-i-init : goal.loop-i-init
loop-i-init c = sym (high_none c.args.rows c.args.count (λ x. number 2 c.args.count (two_of c.args.k.now x)))

pub overflow_mul-number : goal.overflow_mul-number
overflow_mul-number c = let low = next_below c.loop-i.number c.args.rows c.args.count c.loop-i.i 65536 (λ x. number 2 c.args.count (two_of c.args.k.now x)) c.loop-i.invariant (omega arith) (λ a _. row_below c.args.k.now c.args.count a c.args.rows c.requires.rows) c.requires.small in omega arith

pub overflow_add-number : goal.overflow_add-number
overflow_add-number c = let low = next_below c.loop-i.number c.args.rows c.args.count c.loop-i.i 65536 (λ x. number 2 c.args.count (two_of c.args.k.now x)) c.loop-i.invariant (omega arith) (λ a _. row_below c.args.k.now c.args.count a c.args.rows c.requires.rows) c.requires.small in omega (arith, c.row.ensures)

pub loop-i-preserved : goal.loop-i-preserved
loop-i-preserved c = next_is c.loop-i.number c.args.rows c.args.count c.loop-i.i c.row.result (λ x. number 2 c.args.count (two_of c.args.k.now x)) c.loop-i.invariant c.row.ensures (omega arith)

pub returns : goal.returns
returns c = last_is c.loop-i.number c.args.rows c.args.count c.loop-i.i (λ x. number 2 c.args.count (two_of c.args.k.now x)) c.loop-i.invariant (omega arith)

pub row-requires : goal.row-requires
row-requires c = subst (λ (z : ℕ). z ≤ 65536) c.requires.rows (base_below c.args.rows c.args.count 65536 (rows_some c.args.rows c.args.count c.requires.rows) c.requires.some c.requires.small)
