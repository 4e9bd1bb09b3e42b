use Rattle.std.proofs.Common.{◌≡◌, map, sum, ◌∙◌, sym, ap, arith}
use Rattle.fo_terms.specs.Weight.{size_of}
use Rattle.fo_terms.specs.Substitution.{put, occurs_in_any}
use Rattle.fo_unify.specs.inner.Triangle.{solution}
use Rattle.fo_unify.specs.Shown.{as_binds}
use Rattle.fo_unify.proofs.Reaching.{reach_var, reach_fun, reach_size, part_size}
use Rattle.fo_unify.proofs.triangle.+reaching.Goals as goal

pub reaches_any-reaches-requires : goal.reaches_any-reaches-requires
reaches_any-reaches-requires t c =
    let bs = as_binds c.args.binds.now in
    let part = part_size (solution bs) c.args.ts.now c.loop-t.t-index c.t-item.result c.loop-t-test.true c.t-item.is in
    (omega (arith, c.decreases), (c.requires.good, c.loop-t.invariant.seen))

pub reaches-reaches_any-requires : goal.reaches-reaches_any-requires
reaches-reaches_any-requires t c =
    let bs = as_binds c.args.binds.now in
    let size = reach_size bs c.requires.good c.args.t.now c.in-Fun.field-0 c.in-Fun.args (sym c.walk.ensures ∙ c.in-Fun.is) in
    let lent : sum (map size_of (map (put (solution bs)) c.as_slice-in-Fun.result.now)) ≡ sum (map size_of (map (put (solution bs)) c.in-Fun.args)) = ap (λ ts. sum (map size_of (map (put (solution bs)) ts))) c.as_slice-in-Fun.ensures in
    (omega (arith, c.decreases), (c.requires.good, c.requires.seen))

pub reaches-returns-then-branch-clause-reaches : goal.reaches-returns-then-branch-clause-reaches
reaches-returns-then-branch-clause-reaches t c =
    let bs = as_binds c.args.binds.now in
    sym c.if-branch.true ∙ c.in_ok-reaches_any-in-Fun.ensures.reaches ∙ ap (λ ts. occurs_in_any c.args.x (map (put (solution bs)) ts)) c.as_slice-in-Fun.ensures
    ∙ sym (reach_fun bs c.requires.good c.args.t.now c.args.x c.in-Fun.field-0 c.in-Fun.args (sym c.walk.ensures ∙ c.in-Fun.is))

pub reaches-returns-in-Var-clause-reaches : goal.reaches-returns-in-Var-clause-reaches
reaches-returns-in-Var-clause-reaches t c = sym (reach_var (as_binds c.args.binds.now) c.requires.good c.args.t.now c.args.x c.in-Var.y (sym c.walk.ensures ∙ c.in-Var.is))

pub reaches-returns-in_ok-see-in-Fun-clause-reaches : goal.reaches-returns-in_ok-see-in-Fun-clause-reaches
reaches-returns-in_ok-see-in-Fun-clause-reaches t c =
    let bs = as_binds c.args.binds.now in
    sym c.if-branch.false ∙ c.in_ok-reaches_any-in-Fun.ensures.reaches ∙ ap (λ ts. occurs_in_any c.args.x (map (put (solution bs)) ts)) c.as_slice-in-Fun.ensures
    ∙ sym (reach_fun bs c.requires.good c.args.t.now c.args.x c.in-Fun.field-0 c.in-Fun.args (sym c.walk.ensures ∙ c.in-Fun.is))

pub reaches-returns-in_ok-see-in-Fun-clause-seen : goal.reaches-returns-in_ok-see-in-Fun-clause-seen
reaches-returns-in_ok-see-in-Fun-clause-seen t c =
    c.in_ok-see-in-Fun.ensures (as_binds c.args.binds.now) c.args.x (sym (reaches-returns-in_ok-see-in-Fun-clause-reaches t c)) c.in_ok-reaches_any-in-Fun.ensures.seen
