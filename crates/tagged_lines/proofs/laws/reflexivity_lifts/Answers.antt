use Rattle.tagged_lines.proofs.Alone.{reflexivity_lifts as law}
use Rattle.tagged_lines.proofs.laws.reflexivity_lifts.Goals as goal

pub returns : goal.returns
returns c = law c.args.p.now c.args.i c.args.c.now
