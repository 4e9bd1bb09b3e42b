use Rattle.std.proofs.Common.{◌≡◌, ◌++◌, ◌∷◌, [], false, true, length, refl, sym, ◌∙◌, arith}
use Rattle.fo_terms.specs.Substitution.{put}
use Rattle.fo_unify.specs.Lookup.{term_of}
use Rattle.fo_unify.proofs.Agreeing.{same_at}
use Rattle.fo_unify.proofs.Closing.{map_more}
use Rattle.fo_unify.proofs.Reaching.{part_size}
use Rattle.fo_infer.proofs.Looked.{looked_var, same_vars}
use Rattle.fo_infer.proofs.ranking.+agreeing.Goals as goal

pub same-returns-in-Var-Var : goal.same-returns-in-Var-Var
same-returns-in-Var-Var t c =
    let u = term_of c.args.unifier.now in
    same_vars (put u c.args.s.now) (put u c.args.t.now) c.in-Var-Var.x c.in-Var-Var.y
    (looked_var u c.args.s.now c.look.result.now c.look.ensures.same c.look.ensures.free c.in-Var-Var.x c.in-Var-Var.is-0)
    (looked_var u c.args.t.now c.look-2.result.now c.look-2.ensures.same c.look-2.ensures.free c.in-Var-Var.y c.in-Var-Var.is-1)

pub all_same-same-requires : goal.all_same-same-requires
all_same-same-requires t c =
    let part = part_size (term_of c.args.unifier.now) c.args.ss.now c.loop-i.i c.index-ss-i.result c.loop-i-test.true c.index-ss-i.is in
    (omega (arith, c.decreases), tt)

pub all_same-returns-then-not-same : goal.all_same-returns-then-not-same
all_same-returns-then-not-same t c =
    let u = term_of c.args.unifier.now in
    let lengths : length c.args.ss.now ≡ length c.args.ts.now = omega arith in (
      λ told. (let clash : false ≡ true = told in cc),
      λ e. (let met = c.same.ensures.1 (same_at (put u) c.args.ss.now c.args.ts.now c.loop-i.i c.index-ss-i.result c.index-ts-i.result c.loop-i-test.true lengths c.index-ss-i.is c.index-ts-i.is e) in cc),
    )

pub all_same-loop-i-preserved : goal.all_same-loop-i-preserved
all_same-loop-i-preserved t c =
    let u = term_of c.args.unifier.now in
    let one : put u c.index-ss-i.result ≡ put u c.index-ts-i.result = c.if-not-same.ensures.0 refl in
    map_more (put u) c.args.ss.now c.loop-i.i c.index-ss-i.result c.loop-i-test.true c.index-ss-i.is
    ∙ (λ k. c.loop-i.invariant k ++ one k ∷ []) ∙ sym (map_more (put u) c.args.ts.now c.loop-i.i c.index-ts-i.result (omega arith) c.index-ts-i.is)
