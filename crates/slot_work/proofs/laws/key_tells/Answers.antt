use Rattle.slot_work.proofs.Keys.{key_tells as law}
use Rattle.slot_work.proofs.laws.key_tells.Goals as goal

pub returns : goal.returns
returns c = law c.args.theory.now c.args.goal c.args.budget
