use Rattle.std.proofs.Common.{◌≡◌, ◌≤◌, All, length, map}
use Rattle.std.specs.Vec.Iter.{into_iter_items}
use Rattle.fo_infer.specs.Lines.{Follows}
use Rattle.metis_core.specs.Offer.{Passed, Offer, Through}
use Rattle.metis_core.specs.Search.{position_of}
use Rattle.metis_core.specs.Stock.{clauses}
use Rattle.metis_core.specs.Held.{state_of, IsRunning, origin_of}
use Rattle.metis_core.proofs.Lightened.{flat_clause}
use Rattle.metis_core.proofs.inferring.infer.Given as goal

abbrev pub invariant-loop-m : goal.invariant-loop-m
invariant-loop-m l = record {
  running : IsRunning l.given l.stock;
  active : l.stock.active ≡ l.initial.stock.active;
  grows : length l.initial.stock.lines ≤ length l.stock.lines;
  ahead : All (λ m. Follows (position_of l.given.positions) l.given.inputs (clauses l.stock.lines) (origin_of l.premises m.rule) (record { literals = m.clause })) (into_iter_items l.m-iterator);
  whole : (out : Passed) → Through Offer (state_of l.stock) (map flat_clause (into_iter_items l.m-iterator)) out
      → Through Offer (state_of l.initial.stock) (map flat_clause (into_iter_items l.initial.m-iterator)) out;
}
