use Rattle.std.proofs.Common.{[]}
use Rattle.hol_terms.proofs.Abstracts.{type_abstracted}
use Rattle.hol_terms.proofs.laws.abstraction_keeps_types.Goals as goal

pub returns : goal.returns
returns c = λ fits. type_abstracted c.args.sig.now c.args.n c.args.ty.now fits c.args.t.now [] []
