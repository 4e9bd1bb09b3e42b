use Rattle.tagged_lines.proofs.OwnTypes.{own_types_serve as law}
use Rattle.tagged_lines.proofs.laws.own_types_serve.Goals as goal

pub returns : goal.returns
returns c = law c.args.p.now.literals
