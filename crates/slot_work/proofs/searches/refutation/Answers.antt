use Rattle.slot_work.proofs.Finding.{finds_so}
use Rattle.slot_work.proofs.searches.refutation.Goals as goal

pub refutation_of-requires : goal.refutation_of-requires
refutation_of-requires c = finds_so c.args.env.now c.args.facts.now c.args.budget c.requires c.in-Ok.ended c.in-Ok.ensures.1
