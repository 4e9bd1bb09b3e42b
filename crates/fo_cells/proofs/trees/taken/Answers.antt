use Rattle.std.proofs.Common.{◌≡◌, ◌≤◌, [], ◌∷◌, length, take, drop, reverse, ap, ◌∙◌, arith}
use Rattle.std.proofs.lemmas.List.{length-append}
use Rattle.fo_cells.proofs.Lists.{taken_next}
use Rattle.fo_cells.proofs.trees.taken.Goals as goal

pub loop-terms-preserved : goal.loop-terms-preserved
loop-terms-preserved c =
    let next = taken_next (reverse c.args.terms.now) c.loop-terms.args c.push.new.self c.loop-terms.terms c.pop.new.self c.in-Some.t c.loop-terms.invariant.1 c.loop-terms.invariant.2 c.in-Some.ensures c.in_ok-push-in-Some.ensures.ok in
    let within : length c.push.new.self ≤ c.args.n = omega (arith, ap length c.in_ok-push-in-Some.ensures.ok, length-append c.loop-terms.args (c.in-Some.t ∷ [])) in
    (within, next.0, next.1)

pub returns : goal.returns
returns c =
    let n : length c.loop-terms.args ≡ c.args.n = omega (arith, c.loop-terms.invariant.0, c.loop-terms-test.false) in
    (c.loop-terms.invariant.1 ∙ ap (λ k. take k (reverse c.args.terms.now)) n, c.loop-terms.invariant.2 ∙ ap (λ k. drop k (reverse c.args.terms.now)) n)
