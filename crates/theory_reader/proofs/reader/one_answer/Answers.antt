use Rattle.theory_reader.proofs.OneAnswer as answers
use Rattle.theory_reader.proofs.reader.one_answer.Goals as goal

pub returns-clause-some : goal.returns-clause-some
returns-clause-some c = answers.some_answer c.one_cut.ensures.some c.one_cut.ensures.one c.one_answer.ensures.some c.one_answer.ensures.one

pub returns-clause-one : goal.returns-clause-one
returns-clause-one c = answers.one_answer c.one_cut.ensures.some c.one_cut.ensures.one c.one_answer.ensures.some c.one_answer.ensures.one
