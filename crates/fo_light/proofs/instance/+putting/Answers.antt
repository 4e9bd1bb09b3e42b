use Rattle.std.proofs.Common.{◌≡◌, length, map, sum, true, sym, ap, subst, ◌∙◌, arith}
use Rattle.std.proofs.lemmas.List.{take_all, append-nil}
use Rattle.fo_terms.specs.Weight.{size_of}
use Rattle.fo_terms.specs.Substitution.{put}
use Rattle.fo_unify.specs.Lookup.{term_of}
use Rattle.fo_unify.proofs.Reaching.{part_size}
use Rattle.fo_cells.specs.Cells.{joined, symbol_cells}
use Rattle.fo_light.specs.Written.{cells_put, Written}
use Rattle.fo_light.specs.inner.Opened.{Opened}
use Rattle.fo_light.proofs.Instances.{instance_var, instance_fun, instance_size, joined_long, not_opened, not_filled, row_more, row_stops}
use Rattle.fo_light.proofs.instance.+putting.Goals as goal

pub put_instance-put_symbol-requires : goal.put_instance-put_symbol-requires
put_instance-put_symbol-requires t c =
    let v = term_of c.args.unifier.now in
    let size = instance_size v c.args.t.now c.look.result.now c.look.ensures.same c.in-Fun.f c.in-Fun.args c.in-Fun.is in
    let lent : sum (map size_of (map (put v) c.as_slice.result.now)) ≡ sum (map size_of (map (put v) c.in-Fun.args)) = ap (λ ts. sum (map size_of (map (put v) ts))) c.as_slice.ensures in
    (omega (arith, c.decreases), c.requires)

pub put_instance-returns-in_ok-made-in-Var : goal.put_instance-returns-in_ok-made-in-Var
put_instance-returns-in_ok-made-in-Var t c =
    let v = term_of c.args.unifier.now in
    subst (λ cells. Written c.args.out.now cells c.in_ok-made-in-Var.made c.put_variable.new.out)
    (sym (instance_var v c.args.t.now c.look.result.now c.look.ensures.same c.in-Var.x c.in-Var.is (c.look.ensures.free c.in-Var.x c.in-Var.is))) c.in_ok-made-in-Var.ensures

pub put_instance-returns-in_ok-made-in-Fun : goal.put_instance-returns-in_ok-made-in-Fun
put_instance-returns-in_ok-made-in-Fun t c =
    let v = term_of c.args.unifier.now in
    subst (λ cells. Written c.args.out.now cells c.in_ok-made-in-Fun.made c.put_symbol.new.out)
    (ap (λ ts. symbol_cells c.in-Fun.f (map (cells_put v) ts)) c.as_slice.ensures ∙ sym (instance_fun v c.args.t.now c.look.result.now c.look.ensures.same c.in-Fun.f c.in-Fun.args c.in-Fun.is)) c.in_ok-made-in-Fun.ensures

pub put_symbol-returns-then-not-branch : goal.put_symbol-returns-then-not-branch
put_symbol-returns-then-not-branch t c =
    let xs = map (cells_put (term_of c.args.unifier.now)) c.args.args.now in
    let few = joined_long (term_of c.args.unifier.now) c.args.args.now in
    not_opened c.args.out.now c.open.new.out c.args.symbol (length c.args.args.now) xs (omega arith)
    (subst (λ b. Opened c.args.out.now c.args.symbol (length c.args.args.now) b c.open.new.out) c.if-not-branch.true c.in_ok-open.ensures)

pub put_symbol-returns-then-not-branch-2 : goal.put_symbol-returns-then-not-branch-2
put_symbol-returns-then-not-branch-2 t c =
    let xs = map (cells_put (term_of c.args.unifier.now)) c.args.args.now in
    not_filled c.args.out.now c.open.new.out c.args.symbol (length c.args.args.now) xs c.put_all.new.out
    (subst (λ b. Opened c.args.out.now c.args.symbol (length c.args.args.now) b c.open.new.out) c.if-not-branch.false c.in_ok-open.ensures)
    (subst (λ b. Written c.open.new.out (joined xs) b c.put_all.new.out) c.if-not-branch-2.true c.in_ok-put_all.ensures)

pub put_all-loop-t-init : goal.put_all-loop-t-init
put_all-loop-t-init t c = (sym (append-nil c.args.out.now), c.requires)

pub put_all-put_instance-requires : goal.put_all-put_instance-requires
put_all-put_instance-requires t c =
    let part = part_size (term_of c.args.unifier.now) c.args.terms.now c.loop-t.t-index c.t-item.result c.loop-t-test.true c.t-item.is in
    (omega (arith, c.decreases), c.loop-t.invariant.1)

pub put_all-loop-t-preserved : goal.put_all-loop-t-preserved
put_all-loop-t-preserved t c =
    let f = cells_put (term_of c.args.unifier.now) in
    row_more f c.args.terms.now c.loop-t.t-index c.t-item.result c.args.out.now c.loop-t.out c.loop-t-test.true c.t-item.is c.loop-t.invariant c.put_instance.new.out
    (subst (λ b. Written c.loop-t.out (f c.t-item.result) b c.put_instance.new.out) c.if-not-branch.false c.in_ok-put_instance.ensures)

pub put_all-returns-then-not-branch : goal.put_all-returns-then-not-branch
put_all-returns-then-not-branch t c =
    let f = cells_put (term_of c.args.unifier.now) in
    row_stops f c.args.terms.now c.loop-t.t-index c.t-item.result c.args.out.now c.loop-t.out c.loop-t-test.true c.t-item.is c.loop-t.invariant c.put_instance.new.out
    (subst (λ b. Written c.loop-t.out (f c.t-item.result) b c.put_instance.new.out) c.if-not-branch.true c.in_ok-put_instance.ensures)

pub put_all-returns : goal.put_all-returns
put_all-returns t c =
    let f = cells_put (term_of c.args.unifier.now) in
    subst (λ ts. Written c.args.out.now (joined (map f ts)) true c.loop-t.out) (take_all c.loop-t.t-index c.args.terms.now c.loop-t-test.false) c.loop-t.invariant
