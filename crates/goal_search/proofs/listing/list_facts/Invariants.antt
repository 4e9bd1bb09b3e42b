use Rattle.std.proofs.Common.{◌≡◌, take}
use Rattle.std.specs.List.{fold}
use Rattle.goal_search.specs.Fitting.{AllFit}
use Rattle.goal_search.specs.Inputs.{with_fact, nothing}
use Rattle.goal_search.proofs.listing.list_facts.Given as goal

abbrev pub invariant-loop-fact : goal.invariant-loop-fact
invariant-loop-fact l = record {
  fit : AllFit l.env (take l.fact-index l.facts);
  listed : l.listing ≡ fold (with_fact l.env) nothing (take l.fact-index l.facts);
}
