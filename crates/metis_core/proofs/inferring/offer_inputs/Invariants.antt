use Rattle.std.proofs.Common.{◌≡◌, [], drop}
use Rattle.metis_core.specs.Offer.{Passed, Offer, Through}
use Rattle.metis_core.specs.Search.{normal_forms}
use Rattle.metis_core.specs.Held.{state_of, IsRunning}
use Rattle.metis_core.proofs.inferring.offer_inputs.Given as goal

abbrev pub invariant-loop-i : goal.invariant-loop-i
invariant-loop-i l = record {
  running : IsRunning l.given l.stock;
  idle : l.stock.active ≡ [];
  whole : (out : Passed) → Through Offer (state_of l.stock) (normal_forms (drop l.i l.given.inputs)) out
      → Through Offer (state_of l.initial.stock) (normal_forms l.given.inputs) out;
}
