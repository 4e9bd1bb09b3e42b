use Rattle.std.proofs.Common.{refl}
use Rattle.fol_prover.specs.inner.Sinking.{whole, part}
use Rattle.fol_prover.proofs.replying.put_text.Goals as goal

pub returns-in-Ok : goal.returns-in-Ok
returns-in-Ok g c = whole c.in-Ok.ensures.all

pub returns-in-Err : goal.returns-in-Err
returns-in-Err g c = part c.in-Err.ensures.some (c.in-Err.ensures.cause refl)
