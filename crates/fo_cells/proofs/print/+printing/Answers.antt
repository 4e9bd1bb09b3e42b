use Rattle.fo_cells.specs.Cells.{cells_of}
use Rattle.fo_cells.specs.Print.{cell_mixed}
use Rattle.fo_cells.proofs.Terms.{fold_joined_more}
use Rattle.fo_cells.proofs.print.+printing.Goals as goal

pub mix_terms-loop-t-preserved : goal.mix_terms-loop-t-preserved
mix_terms-loop-t-preserved t c = fold_joined_more cell_mixed cells_of c.args.print c.loop-t.print c.mix_term-print.result c.args.terms.now c.loop-t.t-index c.t-item.result c.loop-t-test.true c.t-item.is c.loop-t.invariant c.mix_term-print.ensures
