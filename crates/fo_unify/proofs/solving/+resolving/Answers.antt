use Rattle.std.proofs.Common.{◌≡◌, ◌++◌, ◌∷◌, [], map, sum, ◌∙◌, sym, ap, arith}
use Rattle.fo_terms.specs.Weight.{size_of}
use Rattle.fo_terms.specs.Substitution.{put, fun}
use Rattle.fo_unify.specs.inner.Triangle.{solution}
use Rattle.fo_unify.specs.Shown.{as_binds}
use Rattle.fo_unify.proofs.Reaching.{put_to_var, put_to_fun, reach_size, part_size}
use Rattle.fo_unify.proofs.Closing.{map_more}
use Rattle.fo_unify.proofs.solving.+resolving.Goals as goal

pub resolve-resolve_all-requires : goal.resolve-resolve_all-requires
resolve-resolve_all-requires t c =
    let u = solution (as_binds c.args.binds.now) in
    let size = reach_size (as_binds c.args.binds.now) c.requires c.args.t.now c.in-Fun.f c.in-Fun.args (sym c.walk.ensures ∙ c.in-Fun.is) in
    let lent : sum (map size_of (map (put u) c.as_slice.result.now)) ≡ sum (map size_of (map (put u) c.in-Fun.args)) = ap (λ ts. sum (map size_of (map (put u) ts))) c.as_slice.ensures in
    (omega (arith, c.decreases), c.requires)

pub resolve-returns-in-Var : goal.resolve-returns-in-Var
resolve-returns-in-Var t c = sym (put_to_var (as_binds c.args.binds.now) c.requires c.args.t.now c.in-Var.y (sym c.walk.ensures ∙ c.in-Var.is))

pub resolve-returns-in_ok-resolve_all-in-Fun : goal.resolve-returns-in_ok-resolve_all-in-Fun
resolve-returns-in_ok-resolve_all-in-Fun t c =
    let u = solution (as_binds c.args.binds.now) in
    ap (fun c.in-Fun.f) (c.in_ok-resolve_all-in-Fun.ensures ∙ ap (map (put u)) c.as_slice.ensures)
    ∙ sym (put_to_fun (as_binds c.args.binds.now) c.requires c.args.t.now c.in-Fun.f c.in-Fun.args (sym c.walk.ensures ∙ c.in-Fun.is))

pub resolve_all-resolve-requires : goal.resolve_all-resolve-requires
resolve_all-resolve-requires t c =
    let part = part_size (solution (as_binds c.args.binds.now)) c.args.ts.now c.loop-t.t-index c.t-item.result c.loop-t-test.true c.t-item.is in
    (omega (arith, c.decreases), c.requires)

pub resolve_all-loop-t-preserved : goal.resolve_all-loop-t-preserved
resolve_all-loop-t-preserved t c =
    let u = solution (as_binds c.args.binds.now) in
    c.in_ok-push.ensures.ok ∙ (λ i. c.loop-t.invariant i ++ c.in_ok-resolve.ensures i ∷ []) ∙ sym (map_more (put u) c.args.ts.now c.loop-t.t-index c.t-item.result c.loop-t-test.true c.t-item.is)
