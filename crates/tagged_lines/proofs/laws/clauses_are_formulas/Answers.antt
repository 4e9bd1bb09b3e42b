use Rattle.tagged_lines.proofs.AreFormulas.{are_formulas as law}
use Rattle.tagged_lines.proofs.laws.clauses_are_formulas.Goals as goal

pub returns : goal.returns
returns c = law c.args.p.now.literals
