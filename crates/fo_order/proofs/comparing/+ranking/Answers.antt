use Rattle.std.proofs.Common.{◌≡◌, sym, subst, ap, ◌∙◌, ◌+◌, ◌<◌, Some, length, refl, arith}
use Rattle.std.proofs.lemmas.Option.{slice_get-get_or}
use Rattle.fo_order.proofs.Weighing.{split_size}
use Rattle.fo_terms.specs.Weight.{size_of, size_of_all, capped}
use Rattle.fo_terms.specs.declared.term.FoTerm.{Fun}
use Rattle.fo_terms.proofs.Substitution.{size_fun}
use Rattle.fo_order.specs.KnuthBendix.{heavier, later, RankOfFirst}
use Rattle.fo_order.proofs.Ranks.{by_args, past_first, past_second, past_both, at_difference, past_same}
use Rattle.fo_order.proofs.comparing.+ranking.Goals as goal

pub rank-returns-then-left-right : goal.rank-returns-then-left-right
rank-returns-then-left-right t c = let l = c.requires.left in let r = c.requires.right in heavier (omega arith)

pub rank-returns-then-left-right-2 : goal.rank-returns-then-left-right-2
rank-returns-then-left-right-2 t c = let l = c.requires.left in let r = c.requires.right in heavier (omega arith)

pub rank-returns-then-f-g : goal.rank-returns-then-f-g
rank-returns-then-f-g t c = let l = c.requires.left in let r = c.requires.right in later (omega arith) c.in-Fun-Fun.f c.in-Fun-Fun.g c.in-Fun-Fun.xs c.in-Fun-Fun.ys c.in-Fun-Fun.is-0 c.in-Fun-Fun.is-1 (omega arith)

pub rank-returns-then-f-g-2 : goal.rank-returns-then-f-g-2
rank-returns-then-f-g-2 t c = let l = c.requires.left in let r = c.requires.right in later (omega arith) c.in-Fun-Fun.g c.in-Fun-Fun.f c.in-Fun-Fun.ys c.in-Fun-Fun.xs c.in-Fun-Fun.is-1 c.in-Fun-Fun.is-0 (omega arith)

pub rank-returns-else-f-g-2 : goal.rank-returns-else-f-g-2
rank-returns-else-f-g-2 t c =
    let l = c.requires.left in
    let r = c.requires.right in
    let same : capped (size_of c.args.t.now) ≡ capped (size_of c.args.s.now) = omega arith in
    let heads : c.in-Fun-Fun.g ≡ c.in-Fun-Fun.f = omega arith in
    let says = subst (λ l. RankOfFirst c.in-Fun-Fun.xs l c.rank_first.result) c.as_slice-in-Fun-Fun.ensures
    (subst (λ l. RankOfFirst l c.as_slice-in-Fun-Fun.result.now c.rank_first.result) c.as_slice.ensures c.rank_first.ensures) in
    by_args c.args.s.now c.args.t.now same c.in-Fun-Fun.f c.in-Fun-Fun.xs c.in-Fun-Fun.ys c.in-Fun-Fun.is-0
    (c.in-Fun-Fun.is-1 ∙ ap (λ h. Fun h c.in-Fun-Fun.ys) heads) c.rank_first.result says

pub rank_first-returns-then-i-ys : goal.rank_first-returns-then-i-ys
rank_first-returns-then-i-ys t c = past_second c.args.xs.now c.args.ys.now c.loop-i.i c.loop-i.invariant (omega arith) (omega arith)

pub rank_first-returns-then-not-same : goal.rank_first-returns-then-not-same
rank_first-returns-then-not-same t c =
    at_difference c.args.xs.now c.args.ys.now c.loop-i.i c.loop-i.invariant c.index-xs-i.result c.index-ys-i.result (omega arith) (omega arith) c.index-xs-i.is c.index-ys-i.is
    (λ e. (let wrong = c.if-not-same.ensures.1 e in cc)) c.confirmed.result c.confirmed.ensures

pub rank_first-loop-i-preserved : goal.rank_first-loop-i-preserved
rank_first-loop-i-preserved t c =
    past_same c.args.xs.now c.args.ys.now c.loop-i.i c.loop-i.invariant c.index-xs-i.result c.index-ys-i.result (omega arith) (omega arith) c.index-xs-i.is c.index-ys-i.is
    (c.if-not-same.ensures.0 refl)

pub rank_first-returns-then-xs-ys : goal.rank_first-returns-then-xs-ys
rank_first-returns-then-xs-ys t c = past_first c.args.xs.now c.args.ys.now c.loop-i.i c.loop-i.invariant (omega arith) (omega arith)

pub rank_first-returns : goal.rank_first-returns
rank_first-returns t c = past_both c.args.xs.now c.args.ys.now c.loop-i.i c.loop-i.invariant (omega arith) (omega arith)

pub rank-rank_first-requires : goal.rank-rank_first-requires
rank-rank_first-requires t c =
    let size = ap size_of c.in-Fun-Fun.is-0 ∙ size_fun c.in-Fun-Fun.f c.in-Fun-Fun.xs in
    let lent : size_of_all c.as_slice.result.now ≡ size_of_all c.in-Fun-Fun.xs = ap size_of_all c.as_slice.ensures in
    let left = c.requires.left ∙ ap capped size ∙ ap (λ l. capped (1 + size_of_all l)) (sym c.as_slice.ensures) in
    let right = c.requires.right ∙ ap (λ u. capped (size_of u)) c.in-Fun-Fun.is-1 ∙ ap capped (size_fun c.in-Fun-Fun.g c.in-Fun-Fun.ys) ∙ ap (λ l. capped (1 + size_of_all l)) (sym c.as_slice-in-Fun-Fun.ensures) in
    (omega (arith, c.decreases), (left, right))

pub rank_first-rank-requires : goal.rank_first-rank-requires
rank_first-rank-requires t c =
    let xs = c.args.xs.now in
    let ys = c.args.ys.now in
    let x = c.index-xs-i.result in
    let y = c.index-ys-i.result in
    let in_xs : c.loop-i.i < length xs = omega arith in
    let in_ys : c.loop-i.i < length ys = omega arith in
    let at_x = slice_get-get_or xs c.loop-i.i x in_xs ∙ ap Some (sym c.index-xs-i.is) in
    let at_y = slice_get-get_or ys c.loop-i.i y in_ys ∙ ap Some (sym c.index-ys-i.is) in
    let split = split_size xs c.loop-i.i x in_xs in
    let item = ap size_of c.index-xs-i.is in
    (omega (arith, c.decreases), (c.weight_at-heavy.ensures x at_x, c.weight_at-light.ensures y at_y))
