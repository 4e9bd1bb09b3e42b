use Rattle.sledge_engine.proofs.Refusing.{unrefused}
use Rattle.sledge_engine.proofs.laws.posed_goals_are_not_refused.Goals as goal

pub returns : goal.returns
returns c = unrefused c.one_answer.ensures.one
