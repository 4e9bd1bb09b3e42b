use Rattle.std.proofs.Common.{inl, inr, sym}
use Rattle.fo_order.specs.KnuthBendix.{above}
use Rattle.fo_order.proofs.Ranks.{irr_rank, asym_rank, outranks, covers}
use Rattle.fo_infer.proofs.ranking.is_at_most_by.Goals as goal

pub returns-in-Less : goal.returns-in-Less
returns-in-Less c =
    (λ h. inr (above (c.covered.ensures.0 h) c.in-Less.ensures), λ most. elim most [ inl same ↦ absurd (irr_rank c.in-Less.ensures (sym same)) | inr less ↦ c.covered.ensures.1 (covers less) ])

pub returns-in-Greater : goal.returns-in-Greater
returns-in-Greater c = (λ h. cc, λ most. elim most [ inl same ↦ absurd (irr_rank c.in-Greater.ensures same) | inr less ↦ absurd (asym_rank c.in-Greater.ensures (outranks less)) ])
