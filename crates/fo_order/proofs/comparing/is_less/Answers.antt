use Rattle.std.proofs.Common.{sym}
use Rattle.fo_order.specs.KnuthBendix.{above}
use Rattle.fo_order.proofs.Ranks.{irr, asym_rank, outranks, covers}
use Rattle.fo_order.proofs.comparing.is_less.Goals as goal

pub returns-in-Less : goal.returns-in-Less
returns-in-Less c = (λ h. above (c.covered.ensures.0 h) c.in-Less.ensures, λ less. c.covered.ensures.1 (covers less))

pub returns-in-Equal : goal.returns-in-Equal
returns-in-Equal c = (λ h. cc, λ less. absurd (irr less (sym c.in-Equal.ensures)))

pub returns-in-Greater : goal.returns-in-Greater
returns-in-Greater c = (λ h. cc, λ less. absurd (asym_rank c.in-Greater.ensures (outranks less)))
