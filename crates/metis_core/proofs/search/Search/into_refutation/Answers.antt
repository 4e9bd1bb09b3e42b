use Rattle.std.proofs.Common.{◌≡◌, subst, ap, ◌∙◌}
use Rattle.fo_infer.specs.Lines.{Refutes}
use Rattle.metis_core.specs.declared.turn.Turn.TheVariants.{Found}
use Rattle.metis_core.specs.Search.{position_of}
use Rattle.metis_core.specs.Searched.{StandsAt}
use Rattle.metis_core.specs.Inside.{view_of}
use Rattle.metis_core.proofs.Searches.{refutes}
use Rattle.metis_core.proofs.search.Search.into_refutation.Goals as goal

pub returns-clause-refutes : goal.returns-clause-refutes
returns-clause-refutes c =
    let found : c.self.inside.reached ≡ Found = ap (λ s. s.reached) c.self.view_is ∙ c.requires in
    subst (λ s. Refutes (position_of s.given.positions) s.given.inputs c.self.inside.stock.lines) c.self.view_is
    (refutes (view_of c.self.inside) (subst (StandsAt (view_of c.self.inside)) found c.self.invariant.stands))
