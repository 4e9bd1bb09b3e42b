use Rattle.hol_clausify.proofs.Standing.{given_expanded}
use Rattle.hol_clausify.proofs.laws.expanded_stands.Goals as goal

pub returns : goal.returns
returns c = λ alone typed. given_expanded c.args.sig.now c.args.table.now alone c.args.t.now c.args.ty.now typed
