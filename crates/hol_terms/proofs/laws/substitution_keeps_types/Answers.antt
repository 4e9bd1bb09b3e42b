use Rattle.std.proofs.Common.{[]}
use Rattle.hol_terms.proofs.Substitutes.{type_put}
use Rattle.hol_terms.proofs.laws.substitution_keeps_types.Goals as goal

pub returns : goal.returns
returns c = λ typed. type_put c.args.sig.now c.args.u.now c.args.s.now typed c.args.t.now [] []
