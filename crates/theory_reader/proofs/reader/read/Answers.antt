use Rattle.theory_reader.proofs.Answered.{only}
use Rattle.theory_reader.proofs.reader.read.Goals as goal

pub returns-clause-only : goal.returns-clause-only
returns-clause-only c = only c.one_answer.ensures.one c.args.text.now c.read_all.result c.read_all.ensures
