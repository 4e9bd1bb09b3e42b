use Rattle.std.proofs.Common.{ap}
use Rattle.hol_kernel.proofs.log.Log.env.Goals as goal

pub returns : goal.returns
returns c = ap (λ l. l.env) c.self.view_is
