use Rattle.std.proofs.Common.{[]}
use Rattle.hol_terms.proofs.Closed.{typed_closed}
use Rattle.hol_terms.proofs.laws.typed_is_closed.Goals as goal

pub returns : goal.returns
returns c = λ s typed. typed_closed c.args.sig.now c.args.t.now [] s typed
