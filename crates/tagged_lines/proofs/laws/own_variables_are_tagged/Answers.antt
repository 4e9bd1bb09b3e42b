use Rattle.tagged_lines.proofs.Tags.{own_tagged as law}
use Rattle.tagged_lines.proofs.laws.own_variables_are_tagged.Goals as goal

pub returns : goal.returns
returns c = law c.args.p.now.literals
