use Rattle.tptp_syntax.proofs.Answers as answers
use Rattle.tptp_syntax.proofs.read.one_answer.Goals as goal

pub returns-clause-some : goal.returns-clause-some
returns-clause-some c = answers.some_answer

pub returns-clause-one : goal.returns-clause-one
returns-clause-one c = λ text a b h k. answers.one text a b h k
