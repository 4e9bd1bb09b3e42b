use Rattle.hol_clausify.proofs.ClausesTyped.{clauses_are_typed as law}
use Rattle.hol_clausify.proofs.typing.clauses_are_typed.Goals as goal

pub returns : goal.returns
returns c = law c.args.sig.now c.args.table.now c.args.formula.now c.args.goal
