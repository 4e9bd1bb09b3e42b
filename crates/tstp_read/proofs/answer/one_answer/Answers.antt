use Rattle.tstp_read.proofs.Exists as exists
use Rattle.tstp_read.proofs.Unique as unique
use Rattle.tstp_read.proofs.answer.one_answer.Goals as goal

pub returns-clause-some : goal.returns-clause-some
returns-clause-some c = exists.some_answer

pub returns-clause-one : goal.returns-clause-one
returns-clause-one c = unique.one_answer
