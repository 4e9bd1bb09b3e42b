use Rattle.std.proofs.Common.{sym, subst, ap, ◌∙◌}
use Rattle.hol_terms.specs.Formulas.{IsFormula}
use Rattle.hol_terms.proofs.Formulas.{sentence_formula}
use Rattle.kernel_rules.proofs.TypedTerms.{neg_formula}
use Rattle.hol_derived.specs.Contractions.{contracted_along}
use Rattle.hol_derived.proofs.Splits.{formula_stays}
use Rattle.hol_clausify.proofs.LiftedBodies.{body_formula, denial_way}
use Rattle.hol_clausify.proofs.lifting.body_fails.Goals as goal

pub supposed_denial-requires : goal.supposed_denial-requires
supposed_denial-requires c = sentence_formula c.args.log.now.env.sig c.args.formula.now c.requires.formula

pub beta_expand-requires-clause-target : goal.beta_expand-requires-clause-target
beta_expand-requires-clause-target c =
    let log = c.args.log.now in
    let body = body_formula log.env.sig c.args.formula.now c.args.lifted.now c.args.table.now c.requires.lifted c.requires.formula in
    formula_stays log c.supposed_denial.new.log _ c.supposed_denial.ensures.kept (subst (IsFormula log.env.sig) (sym c.in_ok-way.ensures.term) (neg_formula log.env.sig _ body))

pub beta_expand-requires-clause-redexes : goal.beta_expand-requires-clause-redexes
beta_expand-requires-clause-redexes c =
    (λ i. contracted_along (c.in_ok-way.ensures.paths i) (c.in_ok-way.ensures.term i)) ∙ denial_way c.args.log.now.env.sig c.args.formula.now c.args.lifted.now c.args.table.now c.requires.lifted c.requires.formula
    ∙ sym (ap (λ q. q.concl) c.in_ok-denied.ensures.gives.is)
