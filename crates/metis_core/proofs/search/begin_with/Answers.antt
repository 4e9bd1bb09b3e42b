use Rattle.std.proofs.Common.{◌≡◌, subst, arith}
use Rattle.metis_core.specs.State.{nothing}
use Rattle.metis_core.specs.Offer.{Offer, Through}
use Rattle.metis_core.specs.Search.{normal_forms, inputs, at_inputs}
use Rattle.metis_core.specs.Held.{state_of, Told}
use Rattle.metis_core.specs.Searched.{StandsAt}
use Rattle.metis_core.specs.Stock.{clauses}
use Rattle.metis_core.proofs.Searches.{seen, settled, settled_running}
use Rattle.metis_core.proofs.search.begin_with.Goals as goal
use Rattle.metis_core.proofs.search.begin_with.Goals.{After-settle-reached}

stands : (c : After-settle-reached) → StandsAt (seen c.args.given 0 c.settle-reached.new.stock c.settle-reached.result) c.settle-reached.result
stands c =
    let given = c.args.given in
    let bare : state_of c.in_ok-stock.stock ≡ nothing = λ i. record { kept = clauses (c.in_ok-stock.ensures.lines i); active = c.in_ok-stock.ensures.active i; waiting = c.in_ok-stock.ensures.waiting i } in
    settled given 0 (Through Offer nothing (normal_forms given.inputs)) (λ s h. inputs h) (λ e s h. at_inputs h)
    c.offer_inputs-told.new.stock c.settle-reached.new.stock c.offer_inputs-told.result c.settle-reached.result
    (subst (λ s. Told c.offer_inputs-told.result (state_of c.offer_inputs-told.new.stock) (Through Offer s (normal_forms given.inputs))) bare c.offer_inputs-told.ensures.offered)
    c.offer_inputs-told.ensures.ends c.settle-reached.ensures

pub invariant_of-result : goal.invariant_of-result
invariant_of-result c = record {
  stands = stands (goal.at.invariant_of-result c).After-settle-reached;
  running = settled_running c.args.given c.offer_inputs-told.new.stock c.settle-reached.new.stock c.offer_inputs-told.result c.settle-reached.result c.offer_inputs-told.ensures.running c.settle-reached.ensures;
  age = c.requires;
  within = omega arith;
}

pub returns-clause-stands : goal.returns-clause-stands
returns-clause-stands c = stands (goal.at.returns-clause-stands c).After-settle-reached
