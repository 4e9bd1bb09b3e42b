use Rattle.std.proofs.Common.{◌≡◌, ◌++◌, take}
use Rattle.theory_reader.specs.Sound.{fact_names}
use Rattle.theory_reader.proofs.seen.add_facts.Given as goal

abbrev pub invariant-loop-fact : goal.invariant-loop-fact
invariant-loop-fact l = l.names ≡ l.fn.names ++ fact_names (take l.fact-index l.facts)
