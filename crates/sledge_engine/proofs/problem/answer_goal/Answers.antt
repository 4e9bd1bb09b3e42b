use Rattle.std.proofs.Common.{◌≡◌, ◌∙◌, false, ap, arith, length, map, subst, sym}
use Rattle.std.specs.List.{list_any}
use Rattle.theory_reader.specs.Seen.{seen}
use Rattle.mepo_filter.specs.Slices.{slice_at}
use Rattle.slot_work.specs.Visible.{visible, fact_fits}
use Rattle.sledge_engine.specs.Filter.{slice_choice}
use Rattle.sledge_engine.proofs.InRange.{all_below, is_past, none_chosen, places_below}
use Rattle.sledge_engine.proofs.problem.answer_goal.Goals as goal

pub problem_text-requires-clause-facts : goal.problem_text-requires-clause-facts
problem_text-requires-clause-facts c =
    let t = c.args.theory.now in
    let goal = c.args.goal in
    let m = length (seen t goal) in
    let facts : c.in_ok-facts.facts ≡ map (λ c. c.fact) (slice_choice t goal c.args.slice) =
    c.in_ok-facts.ensures ∙ ap (map (λ c. c.fact)) (c.as_slice.ensures ∙ c.in_ok-chosen.ensures) in
    let none : list_any (is_past m) (visible t goal) ≡ false = places_below (fact_fits t) 0 m (seen t goal) (omega arith) in
    let chosen = none_chosen (is_past m) t (visible t goal) goal (slice_at c.args.slice) none in
    all_below m c.in_ok-facts.facts (subst (λ ns. list_any (is_past m) ns ≡ false) (sym facts) chosen)
