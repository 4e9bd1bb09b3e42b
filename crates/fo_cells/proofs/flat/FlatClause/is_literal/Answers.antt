use Rattle.std.proofs.Common.{sym, ◌∙◌, ap}
use Rattle.fo_cells.specs.Cells.{is_equation, atom_cells}
use Rattle.fo_cells.proofs.Literals.{differ_apart, differ_same, literal_same, kinds_apart}
use Rattle.fo_cells.proofs.flat.FlatClause.is_literal.Goals as goal

pub returns-then-is_positive-l : goal.returns-then-is_positive-l
returns-then-is_positive-l c = λ m there.
    (λ h. absurd (kinds_apart h), λ e. absurd (differ_apart c.is_positive.result c.args.l.now.positive c.if-is_positive-l.true (c.is_positive.ensures m there ∙ ap (λ k. k.positive) (sym e))))

pub returns-then-is_equation-is_equality : goal.returns-then-is_equation-is_equality
returns-then-is_equation-is_equality c = λ m there.
    (λ h. absurd (kinds_apart h), λ e. absurd (differ_apart c.is_equation.result c.is_equality.result c.if-is_equation-is_equality.true (c.is_equation.ensures m there ∙ ap (λ k. is_equation k.atom) (sym e) ∙ sym c.is_equality.ensures)))

pub returns : goal.returns
returns c = λ m there. (
  λ h. literal_same c.args.l.now m (sym (differ_same c.is_positive.result c.args.l.now.positive c.if-is_positive-l.false) ∙ c.is_positive.ensures m there)
      (sym (differ_same c.is_equation.result c.is_equality.result c.if-is_equation-is_equality.false ∙ c.is_equality.ensures) ∙ c.is_equation.ensures m there)
      (c.is_atom.ensures.0 h ∙ c.atom.ensures m there),
  λ e. c.is_atom.ensures.1 (ap (λ k. atom_cells k.atom) e ∙ sym (c.atom.ensures m there)),
)
