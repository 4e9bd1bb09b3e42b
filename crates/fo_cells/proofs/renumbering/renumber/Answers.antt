use Rattle.std.proofs.Common.{arith, ap, ◌∙◌, get_or}
use Rattle.fo_cells.specs.declared.cell.Cell.TheVariants.{Var}
use Rattle.fo_cells.specs.inner.Seen.{cell_numbered}
use Rattle.fo_cells.proofs.Lists.{changed_next}
use Rattle.fo_cells.proofs.renumbering.renumber.Goals as goal

pub loop-i-preserved : goal.loop-i-preserved
loop-i-preserved c =
    changed_next (cell_numbered c.args.noted.now) c.args.cells.now c.loop-i.cells c.set.new.self c.loop-i.i (Var 0) c.numbered_cell.result (omega arith) c.loop-i.invariant
    (c.numbered_cell.ensures ∙ ap (λ l. cell_numbered c.args.noted.now (get_or l c.loop-i.i (Var 0))) c.as_slice.ensures) c.set.ensures
