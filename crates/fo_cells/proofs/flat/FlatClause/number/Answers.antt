use Rattle.std.proofs.Common.{ap, ◌∙◌}
use Rattle.fo_terms.specs.Normal.{numbered}
use Rattle.fo_cells.specs.inner.Seen.{literals_of}
use Rattle.fo_cells.proofs.Literals.{whole, seen}
use Rattle.fo_cells.proofs.Numbering.{numbered_as}
use Rattle.fo_cells.proofs.flat.FlatClause.number.Goals as goal

pub invariant_of-self-2 : goal.invariant_of-self-2
invariant_of-self-2 c =
    let v = c.self.inside in
    whole c.renumber.new.cells v.places.items (numbered (literals_of v.cells v.places.items))
    (numbered_as v.cells c.renumber.new.cells c.as_slice.result.now v.places.items c.gather.new.noted.items c.as_slice-2.result.now c.self.invariant
    c.in_ok-gather.ensures c.as_slice.ensures c.as_slice-2.ensures.value c.renumber.ensures)

pub returns-clause-ok : goal.returns-clause-ok
returns-clause-ok c =
    let v = c.self.inside in
    seen c.renumber.new.cells v.places.items (numbered (literals_of v.cells v.places.items))
    (numbered_as v.cells c.renumber.new.cells c.as_slice.result.now v.places.items c.gather.new.noted.items c.as_slice-2.result.now c.self.invariant
    c.in_ok-gather.ensures c.as_slice.ensures c.as_slice-2.ensures.value c.renumber.ensures)
    ∙ ap numbered c.self.view_is
