use Rattle.tagged_lines.proofs.Alone.{inputs_lift as law}
use Rattle.tagged_lines.proofs.laws.inputs_lift.Goals as goal

pub returns : goal.returns
returns c = law c.args.p.now.literals
