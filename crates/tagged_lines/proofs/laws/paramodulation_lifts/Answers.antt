use Rattle.tagged_lines.proofs.Paramodulating.{paramodulation_lifts as law}
use Rattle.tagged_lines.proofs.laws.paramodulation_lifts.Goals as goal

pub returns : goal.returns
returns c = law c.args.p.now c.args.q.now c.args.i c.args.swapped c.args.j c.args.path.now c.args.c.now
