use Rattle.fo_cells.proofs.Terms.{refuted_never, refuted_sides}
use Rattle.fo_cells.proofs.cell.is_refuted.Goals as goal

pub returns-then-positive : goal.returns-then-positive
returns-then-positive c = λ s t left right. refuted_never c.args.positive s t c.if-positive.true

pub returns : goal.returns
returns c = λ s t left right. refuted_sides c.args.positive s t c.args.left.now c.args.right.now c.same_cells.result c.if-positive.false left right c.same_cells.ensures.0 c.same_cells.ensures.1
