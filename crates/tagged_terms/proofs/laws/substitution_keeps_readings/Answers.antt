use Rattle.tagged_terms.proofs.Keeping.{readings_kept as law}
use Rattle.tagged_terms.proofs.laws.substitution_keeps_readings.Goals as goal

pub returns : goal.returns
returns c = law c.args.t.now
