use Rattle.std.proofs.Common.{◌≡◌, ◌≤◌, ◌∷◌, length, take, drop}
use Rattle.metis_core.specs.declared.premises.Premises.TheVariants.{One}
use Rattle.metis_core.specs.Offer.{Passed, Through}
use Rattle.metis_core.specs.Search.{Inferred, pairs}
use Rattle.metis_core.specs.Held.{state_of, IsRunning}
use Rattle.metis_core.proofs.inferring.infer_all.Given as goal

abbrev pub invariant-loop-i : goal.invariant-loop-i
invariant-loop-i l = record {
  running : IsRunning l.given l.stock;
  active : l.stock.active ≡ l.fn.stock.active;
  grows : length l.fn.stock.lines ≤ length l.stock.lines;
  whole : (out : Passed) → Through (Inferred l.given.positions) (state_of l.stock) (pairs l.g (drop l.i (take l.earlier l.fn.stock.active))) out
      → Through (Inferred l.given.positions) (state_of l.fn.stock) (One l.g ∷ pairs l.g (take l.earlier l.fn.stock.active)) out;
}
