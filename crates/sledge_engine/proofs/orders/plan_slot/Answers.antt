use Rattle.std.proofs.Common.{◌≡◌, ◌∙◌, false, ap, arith, length, subst, sym}
use Rattle.std.specs.List.{list_any}
use Rattle.theory_reader.specs.Seen.{seen}
use Rattle.mepo_filter.specs.Slices.{slice_at}
use Rattle.tptp_print.specs.Problems.{problem_text}
use Rattle.slot_work.specs.Visible.{visible, fact_fits}
use Rattle.sledge_engine.specs.Orders.{child_words, order_of, sliced}
use Rattle.sledge_engine.proofs.InRange.{all_below, is_past, none_chosen, places_below}
use Rattle.sledge_engine.proofs.orders.plan_slot.Goals as goal

pub problem_text-requires-clause-facts : goal.problem_text-requires-clause-facts
problem_text-requires-clause-facts g c =
    let t = c.args.ground.theory.now in
    let n = c.args.ground.goal in
    let m = length (seen t n) in
    let none : list_any (is_past m) (visible t n) ≡ false = places_below (fact_fits t) 0 m (seen t n) (omega arith) in
    let chosen = none_chosen (is_past m) t (visible t n) n (slice_at c.args.slice) none in
    all_below m c.in_ok-facts.facts (subst (λ ns. list_any (is_past m) ns ≡ false) (sym c.in_ok-facts.ensures) chosen)

pub returns : goal.returns
returns g c =
    let t = c.args.ground.theory.now in
    let n = c.args.ground.goal in
    let prover = c.args.prover.now in
    let k = c.args.slice in
    let args : c.in_ok-args.args ≡ child_words prover (slice_at k).age = c.in_ok-args.ensures ∙ ap (λ s. child_words prover s.age) c.slice_of.ensures in
    let problem : c.in_ok-problem.problem ≡ problem_text t n (sliced t n k) = c.in_ok-problem.ensures ∙ ap (problem_text t n) c.in_ok-facts.ensures in
    record {
      order = λ i. record { args = args i; problem = problem i };
      chosen = c.len.ensures ∙ ap length c.in_ok-facts.ensures;
    }
