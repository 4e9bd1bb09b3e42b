use Rattle.tagged_lines.proofs.AgreeingInstances.{instances_agree as law}
use Rattle.tagged_lines.proofs.laws.instances_agree.Goals as goal

pub returns : goal.returns
returns c = law c.args.p.now.literals
