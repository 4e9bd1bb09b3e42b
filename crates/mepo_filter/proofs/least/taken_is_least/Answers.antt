use Rattle.mepo_filter.proofs.Leasts.{taken_is_least}
use Rattle.mepo_filter.proofs.least.taken_is_least.Goals as goal

pub returns : goal.returns
returns c = taken_is_least
