use Rattle.std.proofs.Common.{◌≤◌, ◌∙◌, length, map, ap, arith, subst, sym}
use Rattle.std.specs.Bool.{IsTrue}
use Rattle.std.proofs.lemmas.List.{take_all}
use Rattle.theory_reader.specs.Sound.{fact_names}
use Rattle.sledge_engine.specs.Choice.{AllVisible, is_named, visible_facts}
use Rattle.sledge_engine.proofs.Visibility.{all_more, first_other_at}
use Rattle.sledge_engine.proofs.visible.first_hidden.Goals as goal

pub loop-i-preserved : goal.loop-i-preserved
loop-i-preserved c =
    λ t goal seen.
    let there = fact_names (visible_facts t goal) in
    let named = ap (is_named there) (sym c.as_bytes.ensures.value) ∙ sym (c.in_ok-is_visible.ensures t goal seen) ∙ c.if-not-branch.false in
    all_more (λ w. w.now) (λ name. IsTrue (is_named there name)) c.args.words.now c.loop-i.i _ c.loop-i-test.true (c.loop-i.invariant t goal seen) named

pub returns-then-not-branch : goal.returns-then-not-branch
returns-then-not-branch c =
    λ t goal seen.
    let there = fact_names (visible_facts t goal) in
    let other = ap (is_named there) (sym c.as_bytes.ensures.value) ∙ sym (c.in_ok-is_visible.ensures t goal seen) ∙ c.if-not-branch.true in
    first_other_at (λ w. w.now) there c.args.words.now c.loop-i.i _ c.loop-i-test.true (c.loop-i.invariant t goal seen) other

pub returns : goal.returns
returns c =
    λ t goal seen.
    let words = c.args.words.now in
    let past : length words ≤ c.loop-i.i = omega (arith, c.loop-i-test.false) in
    subst (λ ws. AllVisible t goal (map (λ w. w.now) ws)) (take_all c.loop-i.i words past) (c.loop-i.invariant t goal seen)
