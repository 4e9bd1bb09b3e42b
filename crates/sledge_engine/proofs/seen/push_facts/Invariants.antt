use Rattle.std.proofs.Common.{◌≡◌, ◌++◌, drop, map}
use Rattle.sledge_engine.proofs.seen.push_facts.Given as goal

abbrev pub invariant-loop-fact : goal.invariant-loop-fact
invariant-loop-fact l =
    map (λ f. f.now) l.out.items ++ drop l.fact-index l.facts ≡ map (λ f. f.now) l.initial.out.items ++ l.facts
