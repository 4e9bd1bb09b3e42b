use Rattle.std.proofs.Common.{arith}
use Rattle.metis_core.specs.Stock.{IsLine}
use Rattle.metis_core.proofs.Indexes.{none_more, none_at}
use Rattle.metis_core.proofs.known.is_flat_at.Goals as goal

pub loop-n-preserved : goal.loop-n-preserved
loop-n-preserved c =
    none_more c.args.places.now c.loop-n.n-index (IsLine c.args.lines.now (record { literals = c.args.c.now })) c.loop-n.invariant (λ held. (let wrong = c.if-is_flat_line.ensures.1 held in cc))

pub returns : goal.returns
returns c = (λ h. cc, λ found. absurd (none_at c.args.places.now c.loop-n.n-index (IsLine c.args.lines.now (record { literals = c.args.c.now })) c.loop-n.invariant (omega arith) found))
