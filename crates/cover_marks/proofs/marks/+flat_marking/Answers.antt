use Rattle.std.proofs.Common.{◌∷◌, length, map, sym, ap, ◌∙◌, arith}
use Rattle.std.specs.Prelude.{bit_or}
use Rattle.std.proofs.lemmas.List.{length-append}
use Rattle.fo_cells.specs.Cells.{joined, cells_of}
use Rattle.fo_cells.proofs.Rows.{first_of, some_cells, some_test, empty_test, no_terms}
use Rattle.cover_marks.specs.Marks.{mark, arguments_marks, term_marks}
use Rattle.cover_marks.proofs.Flat.{behind_symbol, symbol_marks, variable_marks, row_marks}
use Rattle.cover_marks.proofs.marks.+flat_marking.Goals as goal

pub of_cells-of_row-requires : goal.of_cells-of_row-requires
of_cells-of_row-requires t c =
    let w = c.in-Some-Fun-default in
    let front = sym w.ensures ∙ ap (λ k. k ∷ w.behind.now) w.field-0-0-is in
    let parts = behind_symbol c.requires.0 w.field-0-0-0 w.field-0-0-1 w.symbol w.behind.now c.args.cells.now c.requires.1 front in
    (omega (arith, c.decreases, ap length w.ensures), (parts.0, parts.2))

pub of_cells-returns-in-Some-Fun-default : goal.of_cells-returns-in-Some-Fun-default
of_cells-returns-in-Some-Fun-default t c = λ u is.
    let w = c.in-Some-Fun-default in
    let front = sym w.ensures ∙ ap (λ k. k ∷ w.behind.now) w.field-0-0-is in
    symbol_marks u w.field-0-0-0 w.field-0-0-1 w.symbol c.args.place c.of_row.result w.behind.now c.args.cells.now is front
    (λ ts row. c.of_row.ensures ts row ∙ (λ i. arguments_marks (c.under-here.ensures i) ((c.mark.ensures ∙ ap mark c.under-here.ensures) i) (map term_marks ts)))

pub of_cells-returns-in-Some-Var-default : goal.of_cells-returns-in-Some-Var-default
of_cells-returns-in-Some-Var-default t c = λ u is.
    let w = c.in-Some-Var-default in
    variable_marks u w.field-0-0-0 c.args.place w.field-0-1.now c.args.cells.now is (sym w.ensures ∙ ap (λ k. k ∷ w.field-0-1.now) w.field-0-0-is)

pub of_cells-returns-in-None : goal.of_cells-returns-in-None
of_cells-returns-in-None t c = λ u is. absurd (omega (arith, some_cells u, ap length (is ∙ c.in-None.ensures)))

pub of_row-returns-then-is_empty : goal.of_row-returns-then-is_empty
of_row-returns-then-is_empty t c = λ ts row.
    sym (ap (λ l. arguments_marks c.args.place c.args.marks (map term_marks l)) (no_terms ts (row ∙ empty_test c.args.cells.now c.is_empty.result c.is_empty.ensures c.if-is_empty.true)))

pub of_row-split_term-requires : goal.of_row-split_term-requires
of_row-split_term-requires t c =
    let first = first_of c.requires.0 c.args.cells.now c.requires.1 (some_test c.args.cells.now c.is_empty.result c.is_empty.ensures c.if-is_empty.false) in
    (first.0, joined (map cells_of first.1), first.3)

pub of_row-of_cells-requires : goal.of_row-of_cells-requires
of_row-of_cells-requires t c =
    let first = first_of c.requires.0 c.args.cells.now c.requires.1 (some_test c.args.cells.now c.is_empty.result c.is_empty.ensures c.if-is_empty.false) in
    let parts = c.split_term.ensures first.0 (joined (map cells_of first.1)) first.3 in
    (omega (arith, c.decreases, ap length parts.0, ap length first.3, length-append (cells_of first.0) (joined (map cells_of first.1))), (first.0, sym parts.0))

pub of_row-of_row-requires : goal.of_row-of_row-requires
of_row-of_row-requires t c =
    let first = first_of c.requires.0 c.args.cells.now c.requires.1 (some_test c.args.cells.now c.is_empty.result c.is_empty.ensures c.if-is_empty.false) in
    let parts = c.split_term.ensures first.0 (joined (map cells_of first.1)) first.3 in
    (omega (arith, c.decreases, ap length parts.1, ap length first.3, some_cells first.0, length-append (cells_of first.0) (joined (map cells_of first.1))), (first.1, sym parts.1))

pub of_row-returns : goal.of_row-returns
of_row-returns t c = λ ts row.
    let first = first_of ts c.args.cells.now row (some_test c.args.cells.now c.is_empty.result c.is_empty.ensures c.if-is_empty.false) in
    let parts = c.split_term.ensures first.0 (joined (map cells_of first.1)) first.3 in
    row_marks ts first.1 first.0 c.args.place c.args.marks c.of_cells.result c.of_row.result first.2 (c.of_cells.ensures first.0 (sym parts.0))
    (c.of_row.ensures first.1 (sym parts.1) ∙ ap (λ p. arguments_marks p (bit_or c.args.marks c.of_cells.result) (map term_marks first.1)) c.next.ensures)
