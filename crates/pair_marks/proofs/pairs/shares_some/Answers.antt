use Rattle.std.proofs.Common.{◌≤◌, length, get_or, refl, sym, arith}
use Rattle.pair_marks.specs.declared.marks.Marks.{Marks}
use Rattle.pair_marks.specs.Sets.{AllShare}
use Rattle.fo_infer.proofs.Paramodulants.{got}
use Rattle.pair_marks.proofs.Growing.{more_grown, all_at}
use Rattle.pair_marks.proofs.pairs.shares_some.Goals as goal

pub loop-need-preserved : goal.loop-need-preserved
loop-need-preserved c =
    let none : Marks = record { a = 0; b = 0; c = 0; symbols = 0 } in
    let item = get_or c.args.needs.now c.loop-need.need-index none in
    let apart : AllShare item c.args.offers.now → ⊥ = λ h. (let told = c.share.ensures h in let untold = c.if-share.false in cc) in
    more_grown (λ (m : Marks). AllShare m c.args.offers.now → ⊥) (λ (m : Marks). AllShare m c.args.offers.now → ⊥) c.args.needs.now c.loop-need.need-index none item refl (λ m h. h) apart c.loop-need.invariant

pub returns : goal.returns
returns c = λ told n held.
    let over : length c.args.needs.now ≤ c.loop-need.need-index = omega arith in
    all_at (λ (m : Marks). AllShare m c.args.offers.now → ⊥) c.args.needs.now c.loop-need.need-index over c.loop-need.invariant held.0 n (got c.args.needs.now held.0 n held.1 (sym held.2))
