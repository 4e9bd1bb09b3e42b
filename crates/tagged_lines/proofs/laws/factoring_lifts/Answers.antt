use Rattle.tagged_lines.proofs.Alone.{factoring_lifts as law}
use Rattle.tagged_lines.proofs.laws.factoring_lifts.Goals as goal

pub returns : goal.returns
returns c = law c.args.p.now c.args.i c.args.j c.args.c.now
