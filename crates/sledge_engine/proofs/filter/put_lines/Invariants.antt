use Rattle.std.proofs.Common.{◌≡◌, ◌++◌, drop, map}
use Rattle.std.specs.List.{flat_map}
use Rattle.theory_reader.specs.Sound.{fact_names}
use Rattle.sledge_engine.specs.Filter.{chosen_line}
use Rattle.sledge_engine.proofs.filter.put_lines.Given as goal

abbrev pub invariant-loop-c : goal.invariant-loop-c
invariant-loop-c l =
    l.text ++ flat_map (chosen_line (fact_names (map (λ f. f.now) l.facts))) (drop l.c-index l.chosen)
    ≡ l.initial.text ++ flat_map (chosen_line (fact_names (map (λ f. f.now) l.facts))) l.chosen
