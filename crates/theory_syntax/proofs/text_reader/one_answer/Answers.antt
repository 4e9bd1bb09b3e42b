use Rattle.theory_syntax.proofs.Exists as exists
use Rattle.theory_syntax.proofs.Places as places
use Rattle.theory_syntax.proofs.text_reader.one_answer.Goals as goal

pub returns-clause-some : goal.returns-clause-some
returns-clause-some c = exists.some_answer

pub returns-clause-one : goal.returns-clause-one
returns-clause-one c = λ m ts. places.one_answer m ts
