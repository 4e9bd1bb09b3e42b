use Rattle.std.proofs.Common.{sym, ◌∙◌}
use Rattle.fo_cells.proofs.Literals.{not_identity, is_sides}
use Rattle.fo_cells.proofs.flat.FlatClause.is_identity.Goals as goal

pub returns-then-not-is_equation : goal.returns-then-not-is_equation
returns-then-not-is_equation c = λ l there. not_identity l.atom (sym (c.is_equation.ensures l there) ∙ c.if-not-is_equation.true)

pub returns : goal.returns
returns c = λ l there. is_sides l.atom c.is_doubled.result c.atom.result.now (sym (c.is_equation.ensures l there) ∙ c.if-not-is_equation.false) (c.atom.ensures l there) c.is_doubled.ensures
