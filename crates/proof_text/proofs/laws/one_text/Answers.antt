use Rattle.proof_text.proofs.Said.{one}
use Rattle.proof_text.proofs.laws.one_text.Goals as goal

pub returns : goal.returns
returns c = one
