use Rattle.std.proofs.Common.{◌≡◌, ◌+◌, ◌∷◌, [], take, drop, ap, ◌∙◌, refl, arith, Err}
use Rattle.std.proofs.lemmas.Result.{err_from_is_err_and}
use Rattle.metis_core.specs.declared.premises.Premises.TheVariants.{One, Two}
use Rattle.metis_core.specs.Offer.{Through, Passed, on, done}
use Rattle.metis_core.specs.Search.{Inferred, pairs}
use Rattle.metis_core.specs.Held.{state_of}
use Rattle.metis_core.proofs.Telling.{exit, after, pairs_at, pairs_end, earlier_within, earlier_at, earlier_end}
use Rattle.metis_core.proofs.inferring.infer_all.Goals as goal
use Rattle.metis_core.proofs.inferring.infer_all.Goals.{After-at-a, In_ok-infer_pair, After-loop-i}

-- ---- the given clause alone

pub returns-in_err-infer-clause-inferred : goal.returns-in_err-infer-clause-inferred
returns-in_err-infer-clause-inferred c =
    let p = err_from_is_err_and c.from_residual.result c.from_residual.ensures.1 in
    let rest = pairs c.args.g (take c.args.earlier c.args.stock.now.active) in
    exit (Inferred c.args.given.now.positions) (state_of c.args.stock.now) (state_of c.args.stock.now) (state_of c.infer.new.stock) (One c.args.g ∷ rest) (One c.args.g ∷ rest) rest (One c.args.g)
    (λ out h. h) refl c.from_residual.result c.in_err-infer.field-0.0 (p.1 ∙ ap Err p.2) c.in_err-infer.ensures.inferred

pub loop-i-init : goal.loop-i-init
loop-i-init c =
    let rest = pairs c.args.g (take c.args.earlier c.args.stock.now.active) in
    record {
      running = c.in_ok-infer.ensures.running;
      active = c.in_ok-infer.ensures.active;
      grows = c.in_ok-infer.ensures.grows;
      whole = after (Inferred c.args.given.now.positions) (state_of c.args.stock.now) (state_of c.args.stock.now) (state_of c.infer.new.stock) (One c.args.g ∷ rest) (One c.args.g ∷ rest) rest (One c.args.g)
          (λ out h. h) refl c.in_ok-infer.ensures.inferred;
    }

-- ---- with an active clause, on the left and on the right

left_at : (c : After-at-a) → pairs c.args.g (drop c.loop-i.i (take c.args.earlier c.args.stock.now.active))
    ≡ Two c.at-a.result.now c.args.g ∷ (Two c.args.g c.at-a.result.now ∷ pairs c.args.g (drop (c.loop-i.i + 1) (take c.args.earlier c.args.stock.now.active)))
left_at c =
    let now = c.loop-i.stock.active in
    let before = c.args.stock.now.active in
    pairs_at c.args.g (take c.args.earlier before) c.loop-i.i c.at-a.result.now
    (earlier_within now before c.args.earlier c.loop-i.i c.at-a.result.now c.loop-i.invariant.active c.loop-i-test.true c.requires.within c.at-a.ensures)
    (earlier_at now before c.args.earlier c.loop-i.i c.at-a.result.now c.loop-i.invariant.active c.loop-i-test.true c.requires.within c.at-a.ensures)

pub returns-in_err-infer_pair-clause-inferred : goal.returns-in_err-infer_pair-clause-inferred
returns-in_err-infer_pair-clause-inferred c =
    let p = err_from_is_err_and c.from_residual-in_err-infer_pair.result c.from_residual-in_err-infer_pair.ensures.1 in
    let before = take c.args.earlier c.args.stock.now.active in
    let a = c.at-a.result.now in
    exit (Inferred c.args.given.now.positions) (state_of c.args.stock.now) (state_of c.loop-i.stock) (state_of c.infer_pair.new.stock) (One c.args.g ∷ pairs c.args.g before)
    (pairs c.args.g (drop c.loop-i.i before)) (Two c.args.g a ∷ pairs c.args.g (drop (c.loop-i.i + 1) before)) (Two a c.args.g) c.loop-i.invariant.whole
    (left_at (goal.at.returns-in_err-infer_pair-clause-inferred c).After-at-a) c.from_residual-in_err-infer_pair.result c.in_err-infer_pair.field-0.0 (p.1 ∙ ap Err p.2) c.in_err-infer_pair.ensures.inferred

right_at : (c : In_ok-infer_pair) → pairs c.args.g (drop c.loop-i.i (take c.args.earlier c.args.stock.now.active))
    ≡ Two c.at-a.result.now c.args.g ∷ (Two c.args.g c.at-a.result.now ∷ pairs c.args.g (drop (c.loop-i.i + 1) (take c.args.earlier c.args.stock.now.active)))
    → (out : Passed) → Through (Inferred c.args.given.now.positions) (state_of c.infer_pair.new.stock)
    (Two c.args.g c.at-a.result.now ∷ pairs c.args.g (drop (c.loop-i.i + 1) (take c.args.earlier c.args.stock.now.active))) out
    → Through (Inferred c.args.given.now.positions) (state_of c.args.stock.now) (One c.args.g ∷ pairs c.args.g (take c.args.earlier c.args.stock.now.active)) out
right_at c is =
    let before = take c.args.earlier c.args.stock.now.active in
    let a = c.at-a.result.now in
    after (Inferred c.args.given.now.positions) (state_of c.args.stock.now) (state_of c.loop-i.stock) (state_of c.infer_pair.new.stock) (One c.args.g ∷ pairs c.args.g before)
    (pairs c.args.g (drop c.loop-i.i before)) (Two c.args.g a ∷ pairs c.args.g (drop (c.loop-i.i + 1) before)) (Two a c.args.g) c.loop-i.invariant.whole
    is c.in_ok-infer_pair.ensures.inferred

pub returns-in_err-infer_pair-2-clause-inferred : goal.returns-in_err-infer_pair-2-clause-inferred
returns-in_err-infer_pair-2-clause-inferred c =
    let p = err_from_is_err_and c.from_residual-in_err-infer_pair-2.result c.from_residual-in_err-infer_pair-2.ensures.1 in
    let before = take c.args.earlier c.args.stock.now.active in
    let a = c.at-a.result.now in
    let rest = pairs c.args.g (drop (c.loop-i.i + 1) before) in
    exit (Inferred c.args.given.now.positions) (state_of c.args.stock.now) (state_of c.infer_pair.new.stock) (state_of c.infer_pair-in-loop-i.new.stock) (One c.args.g ∷ pairs c.args.g before)
    (Two c.args.g a ∷ rest) rest (Two c.args.g a) (right_at (goal.at.returns-in_err-infer_pair-2-clause-inferred c).In_ok-infer_pair (left_at (goal.at.returns-in_err-infer_pair-2-clause-inferred c).After-at-a)) refl
    c.from_residual-in_err-infer_pair-2.result c.in_err-infer_pair-2.field-0.0 (p.1 ∙ ap Err p.2) c.in_err-infer_pair-2.ensures.inferred

pub loop-i-preserved : goal.loop-i-preserved
loop-i-preserved c =
    let before = take c.args.earlier c.args.stock.now.active in
    let a = c.at-a.result.now in
    let rest = pairs c.args.g (drop (c.loop-i.i + 1) before) in
    record {
      running = c.in_ok-infer_pair-2.ensures.running;
      active = c.in_ok-infer_pair-2.ensures.active ∙ c.in_ok-infer_pair.ensures.active ∙ c.loop-i.invariant.active;
      grows = omega (arith, c.loop-i.invariant.grows, c.in_ok-infer_pair.ensures.grows, c.in_ok-infer_pair-2.ensures.grows);
      whole = after (Inferred c.args.given.now.positions) (state_of c.args.stock.now) (state_of c.infer_pair.new.stock) (state_of c.infer_pair-in-loop-i.new.stock) (One c.args.g ∷ pairs c.args.g before)
          (Two c.args.g a ∷ rest) rest (Two c.args.g a) (right_at (goal.at.loop-i-preserved c).In_ok-infer_pair (left_at (goal.at.loop-i-preserved c).After-at-a)) refl c.in_ok-infer_pair-2.ensures.inferred;
    }

-- ---- with itself

last_at : (c : After-loop-i) → pairs c.args.g (drop c.loop-i.i (take c.args.earlier c.args.stock.now.active)) ≡ Two c.args.g c.args.g ∷ []
last_at c = pairs_end c.args.g (take c.args.earlier c.args.stock.now.active) c.loop-i.i (earlier_end c.args.stock.now.active c.args.earlier c.loop-i.i c.loop-i-test.false)

pub returns-in_err-infer_pair-3-clause-inferred : goal.returns-in_err-infer_pair-3-clause-inferred
returns-in_err-infer_pair-3-clause-inferred c =
    let p = err_from_is_err_and c.from_residual-in_err-infer_pair-3.result c.from_residual-in_err-infer_pair-3.ensures.1 in
    let before = take c.args.earlier c.args.stock.now.active in
    exit (Inferred c.args.given.now.positions) (state_of c.args.stock.now) (state_of c.loop-i.stock) (state_of c.infer_pair-2.new.stock) (One c.args.g ∷ pairs c.args.g before)
    (pairs c.args.g (drop c.loop-i.i before)) [] (Two c.args.g c.args.g) c.loop-i.invariant.whole (last_at (goal.at.returns-in_err-infer_pair-3-clause-inferred c).After-loop-i)
    c.from_residual-in_err-infer_pair-3.result c.in_err-infer_pair-3.field-0.0 (p.1 ∙ ap Err p.2) c.in_err-infer_pair-3.ensures.inferred

pub returns-clause-inferred : goal.returns-clause-inferred
returns-clause-inferred c =
    let before = take c.args.earlier c.args.stock.now.active in
    after (Inferred c.args.given.now.positions) (state_of c.args.stock.now) (state_of c.loop-i.stock) (state_of c.infer_pair-2.new.stock) (One c.args.g ∷ pairs c.args.g before)
    (pairs c.args.g (drop c.loop-i.i before)) [] (Two c.args.g c.args.g) c.loop-i.invariant.whole (last_at (goal.at.returns-clause-inferred c).After-loop-i)
    c.in_ok-infer_pair-3.ensures.inferred (on (state_of c.infer_pair-2.new.stock)) done
