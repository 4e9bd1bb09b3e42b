use Rattle.tagged_inputs.proofs.Encodings.{are_encodings}
use Rattle.tagged_inputs.proofs.laws.clauses_are_encoded.Goals as goal

pub returns : goal.returns
returns c = are_encodings c.args.sig.now c.args.table.now c.args.clauses.now
