use Rattle.std.proofs.Common.{[]}
use Rattle.hol_terms.proofs.Replaces.{type_replaced}
use Rattle.hol_terms.proofs.laws.replacement_keeps_types.Goals as goal

pub returns : goal.returns
returns c = λ fits typed. type_replaced c.args.sig.now c.args.n c.args.ty.now c.args.u.now fits typed c.args.t.now []
