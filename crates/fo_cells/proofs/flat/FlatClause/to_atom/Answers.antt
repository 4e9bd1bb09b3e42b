use Rattle.std.proofs.Common.{reverse, ◌∙◌}
use Rattle.fo_cells.proofs.Reading.{atom_read}
use Rattle.fo_cells.proofs.flat.FlatClause.to_atom.Goals as goal

pub returns : goal.returns
returns c = λ l there.
    c.atom_of.ensures ∙ atom_read l.atom c.is_equation.result c.atom.result.now (reverse c.in_ok-terms.terms) (c.atom.ensures l there) (c.is_equation.ensures l there) c.in_ok-terms.ensures
