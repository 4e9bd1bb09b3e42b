use Rattle.std.proofs.Common.{◌≡◌, subst, ap, ◌∙◌, map, sum, refl, arith}
use Rattle.std.proofs.lemmas.List.{length-map}
use Rattle.fo_terms.specs.Weight.{size_of, capped}
use Rattle.fo_terms.specs.Substitution.{put}
use Rattle.fo_terms.specs.declared.term.FoTerm.{Fun}
use Rattle.fo_terms.proofs.Substitution.{size_fun}
use Rattle.fo_unify.specs.Lookup.{term_of}
use Rattle.fo_unify.proofs.Reaching.{part_size}
use Rattle.fo_order.specs.KnuthBendix.{heavier, later, RankOfFirst}
use Rattle.fo_order.proofs.Ranks.{by_args, past_first, past_second, past_both, at_difference, past_same}
use Rattle.fo_infer.proofs.Looked.{looked_fun, image_at}
use Rattle.fo_infer.proofs.ranking.+ranking.Goals as goal

pub rank-returns-then-left-right : goal.rank-returns-then-left-right
rank-returns-then-left-right t c = let l = c.requires.left in let r = c.requires.right in heavier (omega arith)

pub rank-returns-then-left-right-2 : goal.rank-returns-then-left-right-2
rank-returns-then-left-right-2 t c = let l = c.requires.left in let r = c.requires.right in heavier (omega arith)

pub rank-returns-then-f-g : goal.rank-returns-then-f-g
rank-returns-then-f-g t c =
    let u = term_of c.args.unifier.now in
    let l = c.requires.left in
    let r = c.requires.right in
    later (omega arith) c.in-Fun-Fun.f c.in-Fun-Fun.g (map (put u) c.in-Fun-Fun.xs) (map (put u) c.in-Fun-Fun.ys)
    (looked_fun u c.args.s.now c.look.result.now c.look.ensures.same c.in-Fun-Fun.f c.in-Fun-Fun.xs c.in-Fun-Fun.is-0)
    (looked_fun u c.args.t.now c.look-2.result.now c.look-2.ensures.same c.in-Fun-Fun.g c.in-Fun-Fun.ys c.in-Fun-Fun.is-1) (omega arith)

pub rank-returns-then-f-g-2 : goal.rank-returns-then-f-g-2
rank-returns-then-f-g-2 t c =
    let u = term_of c.args.unifier.now in
    let l = c.requires.left in
    let r = c.requires.right in
    later (omega arith) c.in-Fun-Fun.g c.in-Fun-Fun.f (map (put u) c.in-Fun-Fun.ys) (map (put u) c.in-Fun-Fun.xs)
    (looked_fun u c.args.t.now c.look-2.result.now c.look-2.ensures.same c.in-Fun-Fun.g c.in-Fun-Fun.ys c.in-Fun-Fun.is-1)
    (looked_fun u c.args.s.now c.look.result.now c.look.ensures.same c.in-Fun-Fun.f c.in-Fun-Fun.xs c.in-Fun-Fun.is-0) (omega arith)

pub rank-returns-else-f-g-2 : goal.rank-returns-else-f-g-2
rank-returns-else-f-g-2 t c =
    let u = term_of c.args.unifier.now in
    let l = c.requires.left in
    let r = c.requires.right in
    let same : capped (size_of (put u c.args.t.now)) ≡ capped (size_of (put u c.args.s.now)) = omega arith in
    let heads : c.in-Fun-Fun.g ≡ c.in-Fun-Fun.f = omega arith in
    let says = subst (λ l. RankOfFirst (map (put u) c.in-Fun-Fun.xs) (map (put u) l) c.rank_first.result) c.as_slice-in-Fun-Fun.ensures
    (subst (λ l. RankOfFirst (map (put u) l) (map (put u) c.as_slice-in-Fun-Fun.result.now) c.rank_first.result) c.as_slice.ensures c.rank_first.ensures) in
    by_args (put u c.args.s.now) (put u c.args.t.now) same c.in-Fun-Fun.f (map (put u) c.in-Fun-Fun.xs) (map (put u) c.in-Fun-Fun.ys)
    (looked_fun u c.args.s.now c.look.result.now c.look.ensures.same c.in-Fun-Fun.f c.in-Fun-Fun.xs c.in-Fun-Fun.is-0)
    (looked_fun u c.args.t.now c.look-2.result.now c.look-2.ensures.same c.in-Fun-Fun.g c.in-Fun-Fun.ys c.in-Fun-Fun.is-1 ∙ ap (λ h. Fun h (map (put u) c.in-Fun-Fun.ys)) heads)
    c.rank_first.result says

pub rank_first-returns-then-i-ys : goal.rank_first-returns-then-i-ys
rank_first-returns-then-i-ys t c =
    let u = term_of c.args.unifier.now in
    let left = length-map c.args.xs.now (put u) in
    let right = length-map c.args.ys.now (put u) in
    past_second (map (put u) c.args.xs.now) (map (put u) c.args.ys.now) c.loop-i.i c.loop-i.invariant (omega arith) (omega arith)

pub rank_first-returns-then-not-same : goal.rank_first-returns-then-not-same
rank_first-returns-then-not-same t c =
    let u = term_of c.args.unifier.now in
    let left = length-map c.args.xs.now (put u) in
    let right = length-map c.args.ys.now (put u) in
    at_difference (map (put u) c.args.xs.now) (map (put u) c.args.ys.now) c.loop-i.i c.loop-i.invariant (put u c.index-xs-i.result) (put u c.index-ys-i.result) (omega arith) (omega arith)
    (image_at (put u) c.args.xs.now c.loop-i.i c.index-xs-i.result (omega arith) c.index-xs-i.is)
    (image_at (put u) c.args.ys.now c.loop-i.i c.index-ys-i.result (omega arith) c.index-ys-i.is)
    (λ e. (let wrong = c.if-not-same.ensures.1 e in cc)) c.confirmed.result c.confirmed.ensures

pub rank_first-loop-i-preserved : goal.rank_first-loop-i-preserved
rank_first-loop-i-preserved t c =
    let u = term_of c.args.unifier.now in
    let left = length-map c.args.xs.now (put u) in
    let right = length-map c.args.ys.now (put u) in
    past_same (map (put u) c.args.xs.now) (map (put u) c.args.ys.now) c.loop-i.i c.loop-i.invariant (put u c.index-xs-i.result) (put u c.index-ys-i.result) (omega arith) (omega arith)
    (image_at (put u) c.args.xs.now c.loop-i.i c.index-xs-i.result (omega arith) c.index-xs-i.is)
    (image_at (put u) c.args.ys.now c.loop-i.i c.index-ys-i.result (omega arith) c.index-ys-i.is)
    (c.if-not-same.ensures.0 refl)

pub rank_first-returns-then-xs-ys : goal.rank_first-returns-then-xs-ys
rank_first-returns-then-xs-ys t c =
    let u = term_of c.args.unifier.now in
    let left = length-map c.args.xs.now (put u) in
    let right = length-map c.args.ys.now (put u) in
    past_first (map (put u) c.args.xs.now) (map (put u) c.args.ys.now) c.loop-i.i c.loop-i.invariant (omega arith) (omega arith)

pub rank_first-returns : goal.rank_first-returns
rank_first-returns t c =
    let u = term_of c.args.unifier.now in
    let left = length-map c.args.xs.now (put u) in
    let right = length-map c.args.ys.now (put u) in
    past_both (map (put u) c.args.xs.now) (map (put u) c.args.ys.now) c.loop-i.i c.loop-i.invariant (omega arith) (omega arith)

pub rank-rank_first-requires : goal.rank-rank_first-requires
rank-rank_first-requires t c =
    let u = term_of c.args.unifier.now in
    let whole = ap size_of (looked_fun u c.args.s.now c.look.result.now c.look.ensures.same c.in-Fun-Fun.f c.in-Fun-Fun.xs c.in-Fun-Fun.is-0) ∙ size_fun c.in-Fun-Fun.f (map (put u) c.in-Fun-Fun.xs) in
    let lent = ap (λ ts. sum (map size_of (map (put u) ts))) c.as_slice.ensures in
    (omega (arith, c.decreases), tt)

pub rank_first-rank-order-requires : goal.rank_first-rank-order-requires
rank_first-rank-order-requires t c =
    let part = part_size (term_of c.args.unifier.now) c.args.xs.now c.loop-i.i c.index-xs-i.result c.loop-i-test.true c.index-xs-i.is in
    (omega (arith, c.decreases), (c.weight-left.ensures, c.weight-right.ensures))
