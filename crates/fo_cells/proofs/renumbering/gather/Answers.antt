use Rattle.fo_cells.specs.declared.cell.Cell.TheVariants.{Var}
use Rattle.fo_cells.proofs.Numbering.{gather_more, gather_all}
use Rattle.fo_cells.proofs.renumbering.gather.Goals as goal

pub loop-cell-preserved : goal.loop-cell-preserved
loop-cell-preserved c = gather_more c.loop-cell.noted.items c.note_cell.new.noted.items c.args.cells.now c.loop-cell.cell-index (Var 0) c.loop-cell-test.true c.loop-cell.invariant c.in_ok-note_cell.ensures

pub returns : goal.returns
returns c = gather_all c.loop-cell.noted.items c.args.cells.now c.loop-cell.cell-index c.loop-cell-test.false c.loop-cell.invariant
