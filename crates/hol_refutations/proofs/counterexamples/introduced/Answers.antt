use Rattle.hol_refutations.proofs.counterexamples.introduced.Goals as goal

pub ex_intro-whole-requires-clause-t : goal.ex_intro-whole-requires-clause-t
ex_intro-whole-requires-clause-t c = c.requires.value

pub ex_intro-whole-requires-clause-f : goal.ex_intro-whole-requires-clause-f
ex_intro-whole-requires-clause-f c = c.requires.property

pub ex_intro-whole-requires-clause-a : goal.ex_intro-whole-requires-clause-a
ex_intro-whole-requires-clause-a c = c.requires.th

pub ex_intro-whole-requires-clause-fits : goal.ex_intro-whole-requires-clause-fits
ex_intro-whole-requires-clause-fits c = c.requires.is

pub returns-clause-kept : goal.returns-clause-kept
returns-clause-kept c = c.ex_intro-whole.ensures.kept

pub returns-clause-facts : goal.returns-clause-facts
returns-clause-facts c = c.ex_intro-whole.ensures.facts

pub returns-clause-gives : goal.returns-clause-gives
returns-clause-gives c = c.ex_intro-whole.ensures.gives
