use Rattle.std.proofs.Common.{[], ◌∷◌, ◌++◌, ◌≡◌, ◌<◌, ◌+◌, ◌-◌, length, map, take, refl, ap, arith}
use Rattle.fo_cells.specs.declared.cell.Cell.TheVariants.{Fun}
use Rattle.fo_cells.specs.Cells.{cells_of, joined}
use Rattle.fo_terms.specs.Weight.{size_of, size_of_all}
use Rattle.fo_cells.proofs.Written.{kept_through, written_more, too_large, as_many, symbol_size, symbol_written, match_true, match_false}
use Rattle.fo_cells.proofs.writing.+writing.Goals as goal

pub put_all-returns-in_err-put_term-clause-kept : goal.put_all-returns-in_err-put_term-clause-kept
put_all-returns-in_err-put_term-clause-kept t c = kept_through c.args.out.now c.loop-t.out c.put_term.new.out (joined (map cells_of (take c.loop-t.t-index c.args.terms.now))) c.in_err-put_term.ensures.kept c.loop-t.invariant

pub put_all-returns-then-not-branch-clause-written : goal.put_all-returns-then-not-branch-clause-written
put_all-returns-then-not-branch-clause-written t c =
    too_large c.args.terms.now c.loop-t.t-index c.t-item.result c.loop-t-test.true c.t-item.is
    (match_false c.in_ok-put_term.field-0 (c.put_term.new.out ≡ c.loop-t.out ++ cells_of c.t-item.result) (65535 < size_of c.t-item.result) c.if-not-branch.true c.in_ok-put_term.ensures.written)

pub put_all-returns-then-not-branch-clause-kept : goal.put_all-returns-then-not-branch-clause-kept
put_all-returns-then-not-branch-clause-kept t c = kept_through c.args.out.now c.loop-t.out c.put_term.new.out (joined (map cells_of (take c.loop-t.t-index c.args.terms.now))) c.in_ok-put_term.ensures.kept c.loop-t.invariant

pub put_all-loop-t-preserved : goal.put_all-loop-t-preserved
put_all-loop-t-preserved t c =
    written_more c.args.out.now c.loop-t.out c.put_term.new.out c.args.terms.now c.loop-t.t-index c.t-item.result c.loop-t-test.true c.t-item.is c.loop-t.invariant
    (match_true c.in_ok-put_term.field-0 (c.put_term.new.out ≡ c.loop-t.out ++ cells_of c.t-item.result) (65535 < size_of c.t-item.result) c.if-not-branch.false c.in_ok-put_term.ensures.written)

pub put_symbol-returns-then-args-gt-MOST-clause-written : goal.put_symbol-returns-then-args-gt-MOST-clause-written
put_symbol-returns-then-args-gt-MOST-clause-written t c = omega (arith, as_many c.args.args.now)

pub put_symbol-returns-in_err-put_all-clause-kept : goal.put_symbol-returns-in_err-put_all-clause-kept
put_symbol-returns-in_err-put_all-clause-kept t c = kept_through c.args.out.now c.push.new.self c.put_all.new.out ((Fun (length c.args.args.now) 0 c.args.symbol) ∷ []) c.in_err-put_all.ensures.kept c.in_ok-push.ensures.ok

pub put_symbol-returns-then-not-branch-clause-kept : goal.put_symbol-returns-then-not-branch-clause-kept
put_symbol-returns-then-not-branch-clause-kept t c = kept_through c.args.out.now c.push.new.self c.put_all.new.out ((Fun (length c.args.args.now) 0 c.args.symbol) ∷ []) c.in_ok-put_all.ensures.kept c.in_ok-push.ensures.ok

pub put_symbol-returns-then-size-gt-MOST-clause-written : goal.put_symbol-returns-then-size-gt-MOST-clause-written
put_symbol-returns-then-size-gt-MOST-clause-written t c =
    let size : length c.put_all.new.out - length c.args.out.now ≡ size_of_all c.args.args.now + 1 =
    symbol_size c.args.out.now c.push.new.self c.put_all.new.out (Fun (length c.args.args.now) 0 c.args.symbol) c.args.args.now c.in_ok-push.ensures.ok
    (match_true c.in_ok-put_all.field-0 (c.put_all.new.out ≡ c.push.new.self ++ joined (map cells_of c.args.args.now)) (65535 < size_of_all c.args.args.now) c.if-not-branch.false c.in_ok-put_all.ensures.written) in
    omega (arith, c.if-size-gt-MOST.true)

pub put_symbol-returns-clause-written : goal.put_symbol-returns-clause-written
put_symbol-returns-clause-written t c =
    symbol_written c.args.out.now c.push.new.self c.put_all.new.out c.set.new.self (Fun (length c.args.args.now) 0 c.args.symbol) c.args.symbol (length c.args.args.now) (c.len.result - c.len-at.result) c.len-at.result c.args.args.now
    c.in_ok-push.ensures.ok
    (match_true c.in_ok-put_all.field-0 (c.put_all.new.out ≡ c.push.new.self ++ joined (map cells_of c.args.args.now)) (65535 < size_of_all c.args.args.now) c.if-not-branch.false c.in_ok-put_all.ensures.written)
    c.len-at.ensures refl (ap (λ n. n - c.len-at.result) c.len.ensures) c.set.ensures
