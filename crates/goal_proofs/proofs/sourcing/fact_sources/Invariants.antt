use Rattle.std.proofs.Common.{◌≡◌, ◌++◌, take}
use Rattle.std.specs.List.{fold}
use Rattle.kernel_rules.specs.Derivations.{leaves}
use Rattle.hol_kernel.specs.Growth.{Extends}
use Rattle.goal_search.specs.Inputs.{with_fact, nothing}
use Rattle.goal_proofs.specs.inner.Sourced.{AreSourced}
use Rattle.goal_proofs.proofs.sourcing.fact_sources.Given as goal

abbrev pub invariant-loop-fact : goal.invariant-loop-fact
invariant-loop-fact l = record {
  kept : Extends l.initial.log l.log;
  facts : leaves l.log.steps ≡ leaves l.initial.log.steps ++ take l.fact-index l.facts;
  sourced : AreSourced l.log l.sourced;
  listing : l.sourced.listing ≡ fold (with_fact l.initial.log.env) nothing (take l.fact-index l.facts);
}
