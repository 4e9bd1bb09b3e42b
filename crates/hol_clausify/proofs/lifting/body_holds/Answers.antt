use Rattle.std.proofs.Common.{sym, subst, ap, ◌∙◌}
use Rattle.hol_terms.specs.Formulas.{IsFormula}
use Rattle.hol_derived.specs.Contractions.{contracted_along}
use Rattle.hol_clausify.proofs.LiftedBodies.{body_formula, body_way}
use Rattle.hol_clausify.proofs.lifting.body_holds.Goals as goal

pub beta_expand-requires-clause-target : goal.beta_expand-requires-clause-target
beta_expand-requires-clause-target c =
    let sig = c.args.log.now.env.sig in
    subst (IsFormula sig) (sym c.in_ok-way.ensures.term) (body_formula sig c.args.formula.now c.args.lifted.now c.args.table.now c.requires.lifted c.requires.formula)

pub beta_expand-requires-clause-redexes : goal.beta_expand-requires-clause-redexes
beta_expand-requires-clause-redexes c =
    (λ i. contracted_along (c.in_ok-way.ensures.paths i) (c.in_ok-way.ensures.term i)) ∙ body_way c.args.log.now.env.sig c.args.formula.now c.args.lifted.now c.args.table.now c.requires.lifted c.requires.formula
    ∙ sym (ap (λ q. q.concl) c.requires.is)
