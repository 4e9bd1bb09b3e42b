use Rattle.std.proofs.Common.{◌∙◌, ap}
use Rattle.hol_derived.specs.Contractions.{contracted_along}
use Rattle.hol_derived.proofs.contracting.beta_expand.Goals as goal

pub expanded-requires-clause-th : goal.expanded-requires-clause-th
expanded-requires-clause-th c = c.requires.th

pub expanded-requires-clause-target : goal.expanded-requires-clause-target
expanded-requires-clause-target c = c.requires.target

pub expanded-requires-clause-redexes : goal.expanded-requires-clause-redexes
expanded-requires-clause-redexes c = ap (λ p. contracted_along p c.args.target.now) c.as_slice.ensures ∙ c.requires.redexes

pub returns-clause-kept : goal.returns-clause-kept
returns-clause-kept c = c.expanded.ensures.kept

pub returns-clause-gives : goal.returns-clause-gives
returns-clause-gives c = c.expanded.ensures.gives

pub returns-clause-facts : goal.returns-clause-facts
returns-clause-facts c = c.expanded.ensures.facts
