use Rattle.std.proofs.Common.{◌≡◌, ◌<◌, ◌∙◌, ◌^◌, ap, arith, length, map, subst, sym}
use Rattle.mepo_filter.specs.Mepo.{mepo}
use Rattle.mepo_filter.specs.Slices.{slice_at}
use Rattle.slot_work.specs.Visible.{visible, fact_fits}
use Rattle.sledge_engine.specs.Orders.{sliced}
use Rattle.slot_work.proofs.Few.{few_seen}
use Rattle.sledge_engine.proofs.Fitted.{places_few}
use Rattle.sledge_engine.proofs.Replying.{if_ok_map}
use Rattle.theory_reader.specs.Seen.{seen}
use Rattle.sledge_engine.proofs.orders.sliced_facts.Goals as goal

pub select_par-requires-clause-few : goal.select_par-requires-clause-few
select_par-requires-clause-few g c κs within =
    let t = c.args.ground.theory.now in
    let n = c.args.ground.goal in
    let few = few_seen t n in
    let fewer = places_few (fact_fits t) 0 (seen t n) in
    let listed : length (visible t n) < 2 ^ 32 = omega (arith, few, fewer) in
    subst (λ ns. length ns < 2 ^ 32) (sym c.requires.visible) listed

pub returns : goal.returns
returns g c =
    let t = c.args.ground.theory.now in
    let n = c.args.ground.goal in
    let same = c.as_slice.ensures ∙ c.in_ok-chosen.ensures ∙ ap (λ v. mepo t v n c.slice_of.result) c.requires.visible ∙ ap (mepo t (visible t n) n) c.slice_of.ensures in
    if_ok_map c.numbers.result (λ out. out ≡ map (λ c. c.fact) c.as_slice.result.now) (λ out. out ≡ sliced t n c.args.slice)
    (λ out h. h ∙ ap (map (λ c. c.fact)) same) c.numbers.ensures
