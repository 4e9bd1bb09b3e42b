use Rattle.std.proofs.Common.{arith, fold, ap, ◌∙◌}
use Rattle.fo_cells.specs.Cells.{atom_cells}
use Rattle.fo_cells.specs.Print.{cell_mixed, head_mixed, literal_mixed}
use Rattle.fo_cells.proofs.Lists.{fold_next}
use Rattle.fo_cells.proofs.flat.FlatClause.print.Goals as goal

pub loop-i-preserved : goal.loop-i-preserved
loop-i-preserved c =
    fold_next literal_mixed 7 c.loop-i.print c.mix_cells-print.result c.args.self.now c.loop-i.i (omega arith) c.loop-i.invariant
    (λ l there. c.mix_cells-print.ensures ∙ ap (λ k. fold cell_mixed c.mix_head-head.result k) (c.atom.ensures l there)
    ∙ ap (λ n. fold cell_mixed n (atom_cells l.atom)) (c.mix_head-head.ensures ∙ ap (λ b. head_mixed c.loop-i.print b c.is_equation.result) (c.is_positive.ensures l there)
    ∙ ap (head_mixed c.loop-i.print l.positive) (c.is_equation.ensures l there)))
