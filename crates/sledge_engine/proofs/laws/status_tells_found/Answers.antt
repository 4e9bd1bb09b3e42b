use Rattle.sledge_engine.proofs.Statuses.{status_tells}
use Rattle.sledge_engine.proofs.laws.status_tells_found.Goals as goal

pub returns : goal.returns
returns c = status_tells
