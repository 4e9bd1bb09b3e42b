use Rattle.tagged_lines.proofs.Resolving.{resolution_lifts as law}
use Rattle.tagged_lines.proofs.laws.resolution_lifts.Goals as goal

pub returns : goal.returns
returns c = law c.args.p.now c.args.q.now c.args.i c.args.j c.args.c.now
