use Rattle.goal_search.proofs.Ending.{one_end}
use Rattle.goal_search.proofs.laws.search_ends_once.Goals as goal

pub returns : goal.returns
returns c = λ given. one_end given
