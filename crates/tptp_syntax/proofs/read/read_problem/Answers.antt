use Rattle.tptp_syntax.proofs.Answers.{told}
use Rattle.tptp_syntax.proofs.read.read_problem.Goals as goal

pub returns-clause-only : goal.returns-clause-only
returns-clause-only c = λ a is. told c.args.text.now c.read_text.result c.read_text.ensures a is
