use Rattle.std.proofs.Common.{◌&&◌, sym, ap, ◌∙◌}
use Rattle.fo_terms.specs.Normal.{is_identity}
use Rattle.fo_cells.proofs.flat.FlatClause.holds_always.Goals as goal

pub returns-then-not-is_positive : goal.returns-then-not-is_positive
returns-then-not-is_positive c = λ l there. ap (λ b. b && is_identity l.atom) (sym c.if-not-is_positive.true ∙ c.is_positive.ensures l there)

pub returns : goal.returns
returns c = λ l there. c.is_identity.ensures l there ∙ ap (λ b. b && is_identity l.atom) (sym c.if-not-is_positive.false ∙ c.is_positive.ensures l there)
