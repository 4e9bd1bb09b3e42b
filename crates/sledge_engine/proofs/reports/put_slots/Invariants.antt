use Rattle.std.proofs.Common.{◌≡◌, ◌++◌, drop, map}
use Rattle.theory_reader.specs.Sound.{fact_names}
use Rattle.sledge_engine.specs.Reports.{slot_texts}
use Rattle.sledge_engine.proofs.reports.put_slots.Given as goal

abbrev pub invariant-loop-k : goal.invariant-loop-k
invariant-loop-k l =
    l.text ++ slot_texts (fact_names (map (λ f. f.now) l.facts)) l.k (drop l.k l.slots)
    ≡ l.initial.text ++ slot_texts (fact_names (map (λ f. f.now) l.facts)) 0 l.slots
