use Rattle.hol_clausify.proofs.Reading.{reads_back}
use Rattle.hol_clausify.proofs.laws.reads_back.Goals as goal

pub returns : goal.returns
returns c = reads_back c.args.t.now
