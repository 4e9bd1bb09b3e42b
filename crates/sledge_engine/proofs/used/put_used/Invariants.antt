use Rattle.std.proofs.Common.{◌≡◌, ◌++◌, drop, map}
use Rattle.kernel_rules.specs.Derivations.{leaves}
use Rattle.theory_reader.specs.Sound.{fact_names}
use Rattle.sledge_engine.specs.Texts.{spaced}
use Rattle.sledge_engine.specs.Used.{listed_from}
use Rattle.sledge_engine.proofs.used.put_used.Given as goal

abbrev pub invariant-loop-i : goal.invariant-loop-i
invariant-loop-i l =
    l.out ++ spaced (listed_from l.i (leaves l.steps) (fact_names (map (λ f. f.now) (drop l.i l.facts))))
    ≡ l.initial.out ++ spaced (listed_from 0 (leaves l.steps) (fact_names (map (λ f. f.now) l.facts)))
