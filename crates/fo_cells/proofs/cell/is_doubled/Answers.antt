use Rattle.fo_cells.specs.Cells.{cells_of}
use Rattle.std.proofs.Common.{sym, ◌∙◌, arith}
use Rattle.std.proofs.lemmas.List.{take_rest}
use Rattle.fo_cells.proofs.Terms.{doubled_short, doubled}
use Rattle.fo_cells.proofs.cell.is_doubled.Goals as goal

pub returns-then-cells-middle : goal.returns-then-cells-middle
returns-then-cells-middle c = λ s t is. doubled_short s t c.args.cells.now c.term_len-middle.result is (c.term_len-middle.ensures s (cells_of t) is) (omega arith)

pub returns : goal.returns
returns c = λ s t is. doubled s t c.args.cells.now c.term_len-middle.result c.same_cells.result is (c.term_len-middle.ensures s (cells_of t) is)
    (λ h. c.same_cells.ensures.0 h ∙ take_rest c.args.cells.now c.term_len-middle.result) (λ e. c.same_cells.ensures.1 (e ∙ sym (take_rest c.args.cells.now c.term_len-middle.result)))
