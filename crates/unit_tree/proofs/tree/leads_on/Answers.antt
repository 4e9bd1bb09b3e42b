use Rattle.fo_terms.specs.Substitution.{var}
use Rattle.fo_cells.proofs.Binding.{any_agrees}
use Rattle.unit_tree.proofs.tree.leads_on.Goals as goal

pub goes_on-requires-clause-agree : goal.goes_on-requires-clause-agree
goes_on-requires-clause-agree c = (var, any_agrees var)

pub returns : goal.returns
returns c = λ ts row. (
  λ h. let way = (c.goes_on.ensures ts row).0 h in (c.same_token.ensures.0 c.if-not-same_token.false, (way.0, way.1, (way.2.0, way.2.2))),
  λ h. (c.goes_on.ensures ts row).1 (h.1.0, h.1.1, (h.1.2.0, any_agrees h.1.2.0, h.1.2.1)),
)
