use Rattle.std.proofs.Common.{◌≡◌, ◌↔◌, ◌++◌, ◌∷◌, [], IsTrue, false, true, length, map, sum, refl, sym, ap, subst, ◌∙◌, arith}
use Rattle.fo_terms.specs.Weight.{size_of}
use Rattle.fo_terms.specs.Substitution.{put}
use Rattle.fo_unify.specs.inner.Triangle.{solution}
use Rattle.fo_unify.specs.Shown.{as_binds, shown}
use Rattle.fo_unify.specs.Unifier.{Unifies}
use Rattle.fo_unify.proofs.Agreeing.{agree_vars, agree_var_fun, agree_fun_var, agree_heads, agree_args, same_at}
use Rattle.fo_unify.proofs.Closing.{map_more}
use Rattle.fo_unify.proofs.Reaching.{reach_size, part_size}
use Rattle.fo_unify.proofs.triangle.+agreeing.Goals as goal

pub agree-returns-then-is_known-clause-same : goal.agree-returns-then-is_known-clause-same
agree-returns-then-is_known-clause-same t c = (
  λ told. c.if-is_known.ensures refl (solution (as_binds c.args.binds.now)) (subst (λ es. Unifies (solution (as_binds c.args.binds.now)) (shown es)) (sym c.as_slice.ensures) c.requires.known),
  λ e. refl,
)

pub agree-returns-then-f-g-clause-same : goal.agree-returns-then-f-g-clause-same
agree-returns-then-f-g-clause-same t c =
    agree_heads (as_binds c.args.binds.now) c.requires.good c.args.s.now c.args.t.now c.in-Fun-Fun.f c.in-Fun-Fun.g c.in-Fun-Fun.xs c.in-Fun-Fun.ys
    (sym c.walk.ensures ∙ c.in-Fun-Fun.is-0) (sym c.walk-2.ensures ∙ c.in-Fun-Fun.is-1) c.if-f-g.true

pub agree-agree_all-requires : goal.agree-agree_all-requires
agree-agree_all-requires t c =
    let bs = as_binds c.args.binds.now in
    let size = reach_size bs c.requires.good c.args.s.now c.in-Fun-Fun.f c.in-Fun-Fun.xs (sym c.walk.ensures ∙ c.in-Fun-Fun.is-0) in
    let lent : sum (map size_of (map (put (solution bs)) c.as_slice-in-Fun-Fun.result.now)) ≡ sum (map size_of (map (put (solution bs)) c.in-Fun-Fun.xs)) = ap (λ ts. sum (map size_of (map (put (solution bs)) ts))) c.as_slice-in-Fun-Fun.ensures in
    (omega (arith, c.decreases), (c.requires.good, c.requires.known))

pub agree-returns-then-not-branch-clause-same : goal.agree-returns-then-not-branch-clause-same
agree-returns-then-not-branch-clause-same t c =
    let u = solution (as_binds c.args.binds.now) in
    agree_args (as_binds c.args.binds.now) c.requires.good c.args.s.now c.args.t.now c.in-Fun-Fun.f c.in-Fun-Fun.g c.in-Fun-Fun.xs c.in-Fun-Fun.ys
    (sym c.walk.ensures ∙ c.in-Fun-Fun.is-0) (sym c.walk-2.ensures ∙ c.in-Fun-Fun.is-1) c.if-f-g.false false
    (subst (λ b. IsTrue b ↔ (map (put u) c.in-Fun-Fun.xs ≡ map (put u) c.in-Fun-Fun.ys)) c.if-not-branch.true
    (subst (λ xs. IsTrue c.in_ok-agree_all-in-Fun-Fun.field-0 ↔ (map (put u) xs ≡ map (put u) c.in-Fun-Fun.ys)) c.as_slice-in-Fun-Fun.ensures
    (subst (λ ys. IsTrue c.in_ok-agree_all-in-Fun-Fun.field-0 ↔ (map (put u) c.as_slice-in-Fun-Fun.result.now ≡ map (put u) ys)) c.as_slice-in-Fun-Fun-2.ensures
    c.in_ok-agree_all-in-Fun-Fun.ensures.same)))

pub agree-returns-in-Var-Var-clause-same : goal.agree-returns-in-Var-Var-clause-same
agree-returns-in-Var-Var-clause-same t c =
    agree_vars (as_binds c.args.binds.now) c.requires.good c.args.s.now c.args.t.now c.in-Var-Var.x c.in-Var-Var.y (sym c.walk.ensures ∙ c.in-Var-Var.is-0) (sym c.walk-2.ensures ∙ c.in-Var-Var.is-1)

pub agree-returns-in-Var-Fun-clause-same : goal.agree-returns-in-Var-Fun-clause-same
agree-returns-in-Var-Fun-clause-same t c =
    agree_var_fun (as_binds c.args.binds.now) c.requires.good c.args.s.now c.args.t.now c.in-Var-Fun.field-0-0 c.in-Var-Fun.field-0-1 c.in-Var-Fun.field-1-1 (sym c.walk.ensures ∙ c.in-Var-Fun.is-0) (sym c.walk-2.ensures ∙ c.in-Var-Fun.is-1)

pub agree-returns-in-Fun-Var-clause-same : goal.agree-returns-in-Fun-Var-clause-same
agree-returns-in-Fun-Var-clause-same t c =
    agree_fun_var (as_binds c.args.binds.now) c.requires.good c.args.s.now c.args.t.now c.in-Fun-Var.field-0-1 c.in-Fun-Var.field-0-0 c.in-Fun-Var.field-1-0 (sym c.walk.ensures ∙ c.in-Fun-Var.is-0) (sym c.walk-2.ensures ∙ c.in-Fun-Var.is-1)

pub agree-returns-in_ok-know-in-Fun-Fun-clause-same : goal.agree-returns-in_ok-know-in-Fun-Fun-clause-same
agree-returns-in_ok-know-in-Fun-Fun-clause-same t c =
    let u = solution (as_binds c.args.binds.now) in
    agree_args (as_binds c.args.binds.now) c.requires.good c.args.s.now c.args.t.now c.in-Fun-Fun.f c.in-Fun-Fun.g c.in-Fun-Fun.xs c.in-Fun-Fun.ys
    (sym c.walk.ensures ∙ c.in-Fun-Fun.is-0) (sym c.walk-2.ensures ∙ c.in-Fun-Fun.is-1) c.if-f-g.false true
    (subst (λ b. IsTrue b ↔ (map (put u) c.in-Fun-Fun.xs ≡ map (put u) c.in-Fun-Fun.ys)) c.if-not-branch.false
    (subst (λ xs. IsTrue c.in_ok-agree_all-in-Fun-Fun.field-0 ↔ (map (put u) xs ≡ map (put u) c.in-Fun-Fun.ys)) c.as_slice-in-Fun-Fun.ensures
    (subst (λ ys. IsTrue c.in_ok-agree_all-in-Fun-Fun.field-0 ↔ (map (put u) c.as_slice-in-Fun-Fun.result.now ≡ map (put u) ys)) c.as_slice-in-Fun-Fun-2.ensures
    c.in_ok-agree_all-in-Fun-Fun.ensures.same)))

pub agree-returns-in_ok-know-in-Fun-Fun-clause-known : goal.agree-returns-in_ok-know-in-Fun-Fun-clause-known
agree-returns-in_ok-know-in-Fun-Fun-clause-known t c =
    c.in_ok-know-in-Fun-Fun.ensures (solution (as_binds c.args.binds.now)) ((agree-returns-in_ok-know-in-Fun-Fun-clause-same t c).0 refl) c.in_ok-agree_all-in-Fun-Fun.ensures.known

pub agree_all-agree-requires : goal.agree_all-agree-requires
agree_all-agree-requires t c =
    let part = part_size (solution (as_binds c.args.binds.now)) c.args.ss.now c.loop-i.i c.index-ss-i.result c.loop-i-test.true c.index-ss-i.is in
    (omega (arith, c.decreases), (c.requires.good, c.loop-i.invariant.known))

pub agree_all-returns-then-not-branch-clause-same : goal.agree_all-returns-then-not-branch-clause-same
agree_all-returns-then-not-branch-clause-same t c =
    let u = solution (as_binds c.args.binds.now) in
    let lengths : length c.args.ss.now ≡ length c.args.ts.now = omega arith in (
      λ told. (let clash : false ≡ true = told in cc),
      λ e. sym c.if-not-branch.true ∙ c.in_ok-agree.ensures.same.1 (same_at (put u) c.args.ss.now c.args.ts.now c.loop-i.i c.index-ss-i.result c.index-ts-i.result c.loop-i-test.true lengths c.index-ss-i.is c.index-ts-i.is e),
    )

pub agree_all-loop-i-preserved : goal.agree_all-loop-i-preserved
agree_all-loop-i-preserved t c =
    let u = solution (as_binds c.args.binds.now) in
    let one : put u c.index-ss-i.result ≡ put u c.index-ts-i.result = c.in_ok-agree.ensures.same.0 c.if-not-branch.false in
    record {
      same = map_more (put u) c.args.ss.now c.loop-i.i c.index-ss-i.result c.loop-i-test.true c.index-ss-i.is
          ∙ (λ k. c.loop-i.invariant.same k ++ one k ∷ []) ∙ sym (map_more (put u) c.args.ts.now c.loop-i.i c.index-ts-i.result (omega arith) c.index-ts-i.is);
      known = c.in_ok-agree.ensures.known;
    }
