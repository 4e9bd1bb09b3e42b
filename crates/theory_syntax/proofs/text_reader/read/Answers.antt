use Rattle.theory_syntax.proofs.Places as places
use Rattle.theory_syntax.proofs.text_reader.read.Goals as goal

pub returns-clause-only : goal.returns-clause-only
returns-clause-only c = λ a is. places.told c.args.limit c.args.toks.now (λ v. v) c.read_at.result c.read_at.ensures a is
