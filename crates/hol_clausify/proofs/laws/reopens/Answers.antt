use Rattle.hol_clausify.proofs.Chosen.{reopened}
use Rattle.hol_clausify.proofs.laws.reopens.Goals as goal

pub returns : goal.returns
returns c = reopened c.args.variables.now c.args.t.now
