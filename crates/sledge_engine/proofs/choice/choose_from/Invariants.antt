use Rattle.std.proofs.Common.{◌≡◌, ◌++◌, drop, map}
use Rattle.sledge_engine.specs.Choice.{has_name}
use Rattle.slot_work.specs.Visible.{places_from}
use Rattle.sledge_engine.proofs.choice.choose_from.Given as goal

abbrev pub invariant-loop-i : goal.invariant-loop-i
invariant-loop-i l =
    l.numbers ++ places_from l.i (has_name l.table) (map (λ f. f.now) (drop l.i l.facts)) ≡ places_from 0 (has_name l.table) (map (λ f. f.now) l.facts)
