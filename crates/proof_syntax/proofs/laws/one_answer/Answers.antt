use Rattle.proof_syntax.proofs.Unique as unique
use Rattle.proof_syntax.proofs.laws.one_answer.Goals as goal

pub returns : goal.returns
returns c = λ t text. unique.one_answer t text
