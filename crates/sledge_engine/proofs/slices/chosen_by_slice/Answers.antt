use Rattle.std.proofs.Common.{◌≡◌, ◌<◌, ◌^◌, ◌∙◌, ap, arith, false, length, subst, sym}
use Rattle.formula_clauses.specs.Fits.{fits}
use Rattle.mepo_filter.specs.Mepo.{mepo}
use Rattle.slot_work.specs.Visible.{places_from, visible}
use Rattle.sledge_engine.specs.Filter.{slice_choice}
use Rattle.sledge_engine.proofs.Fitted.{few_facts, places_few, visible_by}
use Rattle.sledge_engine.proofs.Replying.{if_ok_map}
use Rattle.sledge_engine.proofs.slices.chosen_by_slice.Goals as goal

pub visible_facts-requires : goal.visible_facts-requires
visible_facts-requires c = few_facts c.args.theory.now c.args.goal c.args.env.now c.requires.env

pub select-requires-clause-few : goal.select-requires-clause-few
select-requires-clause-few c =
    let e = c.args.env.now in
    let few = few_facts c.args.theory.now c.args.goal e c.requires.env in
    let fewer = places_few (λ t. fits e.sig t false) 0 e.facts in
    let listed : length (places_from 0 (λ t. fits e.sig t false) e.facts) < 2 ^ 32 = omega (arith, few, fewer) in
    subst (λ ns. length ns < 2 ^ 32) (sym c.in_ok-visible.ensures) listed

pub returns : goal.returns
returns c =
    let t = c.args.theory.now in
    let goal = c.args.goal in
    let s = c.slice_of.result in
    let same = c.in_ok-visible.ensures ∙ visible_by t goal c.args.env.now c.requires.env in
    if_ok_map c.select.result (λ chosen. chosen ≡ mepo t c.in_ok-visible.visible goal s) (λ chosen. chosen ≡ slice_choice t goal c.args.slice)
    (λ chosen h. h ∙ ap (λ v. mepo t v goal s) same ∙ ap (mepo t (visible t goal) goal) c.slice_of.ensures) c.select.ensures
