use Rattle.proof_total.proofs.Exists as exists
use Rattle.proof_total.proofs.laws.some_answer.Goals as goal

pub returns : goal.returns
returns c = λ t text. exists.some_answer t text
