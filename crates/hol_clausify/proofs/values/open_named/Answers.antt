use Rattle.std.proofs.Common.{IsTrue, sym, subst, ◌∙◌}
use Rattle.hol_terms.specs.Substitution.{is_closed}
use Rattle.hol_terms.proofs.Formulas.{formula_closed}
use Rattle.kernel_rules.proofs.LooseIndexes.{right_closed}
use Rattle.hol_clausify.proofs.values.open_named.Goals as goal

pub instantiate-requires : goal.instantiate-requires
instantiate-requires c =
    subst (λ z. IsTrue (is_closed z)) (sym (c.get.ensures ∙ c.in_ok-value.ensures ∙ c.in_ok-copy.ensures ∙ c.right.ensures))
    (right_closed c.conclusion.result.now (formula_closed c.args.log.now.env.sig c.conclusion.result.now c.conclusion.ensures.formula))
