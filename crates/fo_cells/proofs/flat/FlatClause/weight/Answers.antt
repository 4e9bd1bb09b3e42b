use Rattle.std.proofs.Common.{map, sum, ap, ◌∙◌}
use Rattle.fo_terms.specs.Weight.{literal_size}
use Rattle.fo_cells.proofs.Literals.{weighs}
use Rattle.fo_cells.proofs.flat.FlatClause.weight.Goals as goal

pub returns : goal.returns
returns c =
    let v = c.self.inside in
    c.len.ensures ∙ weighs v.cells v.places.items c.self.invariant ∙ ap (λ ls. sum (map literal_size ls)) c.self.view_is
