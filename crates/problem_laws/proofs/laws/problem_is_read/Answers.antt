use Rattle.problem_laws.proofs.Read.{problem_read}
use Rattle.problem_laws.proofs.laws.problem_is_read.Goals as goal

pub returns : goal.returns
returns c = problem_read c.args.theory.now c.args.goal c.args.facts.now c.requires.facts
