use Rattle.std.proofs.Common.{ap, ◌∙◌, sym}
use Rattle.fo_cells.specs.Cells.{cells_of, atom_cells}
use Rattle.fo_cells.proofs.Reading.{all_read, both_read}
use Rattle.fo_cells.proofs.trees.is_atom.Goals as goal

pub returns-in-Holds : goal.returns-in-Holds
returns-in-Holds c =
    let read = all_read (cells_of c.in-Holds.t) c.args.cells.now c.behind.result c.is_all.result c.behind.ensures c.is_all.ensures in
    (λ h. ap atom_cells c.in-Holds.is ∙ read.0 h, λ e. read.1 (sym (ap atom_cells c.in-Holds.is) ∙ e))

pub returns-in-Some : goal.returns-in-Some
returns-in-Some c =
    let read = both_read (cells_of c.in-Eq.s) (cells_of c.in-Eq.t) c.args.cells.now c.in-Some.rest.now c.behind-in-Some.result c.is_all-in-Some.result c.in-Some.ensures c.behind-in-Some.ensures c.is_all-in-Some.ensures in
    (λ h. ap atom_cells c.in-Eq.is ∙ read.0 h, λ e. read.1 (sym (ap atom_cells c.in-Eq.is) ∙ e))
