use Rattle.fo_cells.proofs.Lists.{some_at}
use Rattle.cover_marks.proofs.Flat.{one_term, two_terms, holds_marks, sides_marks}
use Rattle.cover_marks.proofs.marks.of_flat_literal.Goals as goal

pub of_sides-requires : goal.of_sides-requires
of_sides-requires c =
    let l = some_at c.args.c.now c.args.at c.requires in
    two_terms l.0 c.atom-cells.result.now c.is_equation.result (c.atom-cells.ensures l.0 l.1) (c.is_equation.ensures l.0 l.1) c.if-is_equation.true

pub of_side-requires : goal.of_side-requires
of_side-requires c =
    let l = some_at c.args.c.now c.args.at c.requires in
    one_term l.0 c.atom-cells.result.now c.is_equation.result (c.atom-cells.ensures l.0 l.1) (c.is_equation.ensures l.0 l.1) c.if-is_equation.false

pub returns-then-is_equation : goal.returns-then-is_equation
returns-then-is_equation c = λ l there.
    sides_marks l c.atom-cells.result.now c.is_positive-positive.result c.is_equation.result c.of_sides.result (c.atom-cells.ensures l there) (c.is_positive-positive.ensures l there) (c.is_equation.ensures l there) c.if-is_equation.true c.of_sides.ensures

pub returns-else-is_equation : goal.returns-else-is_equation
returns-else-is_equation c = λ l there.
    holds_marks l c.atom-cells.result.now c.is_positive-positive.result c.is_equation.result c.of_side.result (c.atom-cells.ensures l there) (c.is_positive-positive.ensures l there) (c.is_equation.ensures l there) c.if-is_equation.false c.of_side.ensures
