use Rattle.proof_syntax.proofs.Unique.{told}
use Rattle.proof_reader.proofs.reader.read_proof.Goals as goal

pub returns-clause-only : goal.returns-clause-only
returns-clause-only c = λ a is. told c.args.theory.now c.args.text.now c.read_text.result c.read_text.ensures.read a is
