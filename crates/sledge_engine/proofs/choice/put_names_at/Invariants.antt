use Rattle.std.proofs.Common.{◌≡◌, ◌++◌, drop, map}
use Rattle.theory_reader.specs.Sound.{fact_names}
use Rattle.sledge_engine.specs.Choice.{names_at}
use Rattle.sledge_engine.specs.Texts.{spaced}
use Rattle.sledge_engine.proofs.choice.put_names_at.Given as goal

abbrev pub invariant-loop-number : goal.invariant-loop-number
invariant-loop-number l =
    l.out ++ spaced (names_at (fact_names (map (λ f. f.now) l.facts)) (drop l.number-index l.numbers))
    ≡ l.initial.out ++ spaced (names_at (fact_names (map (λ f. f.now) l.facts)) l.numbers)
