use Rattle.std.proofs.Common.{◌≡◌, ◌++◌, false, drop}
use Rattle.formula_clauses.specs.Fits.{fits}
use Rattle.slot_work.specs.Visible.{places_from}
use Rattle.sledge_engine.proofs.visible.visible_facts.Given as goal

abbrev pub invariant-loop-i : goal.invariant-loop-i
invariant-loop-i l =
    l.out ++ places_from l.i (λ t. fits l.env.sig t false) (drop l.i l.env.facts) ≡ places_from 0 (λ t. fits l.env.sig t false) l.env.facts
