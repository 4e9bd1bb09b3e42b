use Rattle.std.proofs.Common.{sym, ◌∙◌}
use Rattle.fo_cells.proofs.Literals.{differ_apart, differ_same, other_sign, other_kind, same_row}
use Rattle.fo_cells.proofs.flat.FlatClause.is_at.Goals as goal

pub returns-then-is_positive-positive : goal.returns-then-is_positive-positive
returns-then-is_positive-positive c = λ l m made there.
    other_sign m l (λ e. differ_apart c.is_positive.result c.args.positive c.if-is_positive-positive.true (c.is_positive.ensures m there ∙ e ∙ made.sign))

pub returns-then-is_equation-equation : goal.returns-then-is_equation-equation
returns-then-is_equation-equation c = λ l m made there.
    other_kind m l (λ e. differ_apart c.is_equation.result c.args.equation c.if-is_equation-equation.true (c.is_equation.ensures m there ∙ e ∙ made.kind))

pub returns : goal.returns
returns c = λ l m made there.
    same_row m l c.is_row.result c.atom.result.now _
    (sym (c.is_positive.ensures m there) ∙ differ_same c.is_positive.result c.args.positive c.if-is_positive-positive.false ∙ sym made.sign)
    (sym (c.is_equation.ensures m there) ∙ differ_same c.is_equation.result c.args.equation c.if-is_equation-equation.false ∙ sym made.kind)
    (c.atom.ensures m there) made.cells_are c.is_row.ensures.0 c.is_row.ensures.1
