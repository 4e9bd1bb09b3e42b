use Rattle.std.proofs.Common.{sym}
use Rattle.hol_terms.specs.Formulas.{is_sentence}
use Rattle.fin_model.proofs.Models.{each_of}
use Rattle.fin_model.proofs.Telling.{fact_tells, no_fact_tells}
use Rattle.fin_model.proofs.calls.is_true_fact.Goals as goal

pub is_true-requires-clause-fits : goal.is_true-requires-clause-fits
is_true-requires-clause-fits c = c.requires

pub is_true-requires-clause-sentence : goal.is_true-requires-clause-sentence
is_true-requires-clause-sentence c = each_of (is_sentence c.args.env.now.sig) c.args.env.now.facts c.args.n c.in-Some.t.now c.args.env.now.facts_are_sentences (sym c.in-Some.ensures.value)

pub returns-in-Some : goal.returns-in-Some
returns-in-Some c = fact_tells c.args.env.now c.args.model.now c.args.n c.in-Some.t.now c.is_true.result c.in-Some.ensures.value c.is_true.ensures

pub returns-in-None : goal.returns-in-None
returns-in-None c = no_fact_tells c.args.env.now c.args.model.now c.args.n c.in-None.ensures.value
