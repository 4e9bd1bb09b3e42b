use Rattle.fo_index.proofs.Collecting.{begins-says}
use Rattle.fo_index.proofs.meeting.begins.Goals as goal

pub returns : goal.returns
returns c = begins-says c.args.first.now c.args.second.now c.starts_with.result c.starts_with.ensures.value
