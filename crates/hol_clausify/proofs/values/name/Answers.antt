use Rattle.std.proofs.Common.{◌≡◌, sym, ap, subst, ◌∙◌}
use Rattle.std.specs.Prelude.{IfOk}
use Rattle.std.specs.FinSet as set
use Rattle.hol_terms.specs.Formulas.{IsFormula}
use Rattle.kernel_rules.specs.Connectives.{some, lambda, equal, chosen}
use Rattle.kernel_rules.specs.Rules.{seq}
use Rattle.hol_kernel.specs.Growth.{Gives}
use Rattle.hol_formulas.specs.declared.formula.Quantifier.TheVariants as quantifiers
use Rattle.formula_clauses.specs.Walks.{property}
use Rattle.hol_clausify.specs.Places.{quantifier}
use Rattle.hol_clausify.specs.Refutations.{chosen_value}
use Rattle.hol_clausify.proofs.values.name.Goals as goal

pub name_chosen-requires : goal.name_chosen-requires
name_chosen-requires c =
    let a = c.args.ty.now in
    subst (λ z. IsFormula c.args.log.now.env.sig (some a z)) (sym c.requires.property)
    (subst (λ q. IsFormula c.args.log.now.env.sig (quantifier q a (lambda a c.args.body.now))) c.in-Ex.is c.requires.whole)

pub name_failing-requires : goal.name_failing-requires
name_failing-requires c = let a = c.args.ty.now in subst (λ q. IsFormula c.args.log.now.env.sig (quantifier q a (lambda a c.args.body.now))) c.in-All.is c.requires.whole

pub returns-in-Ex-clause-kept : goal.returns-in-Ex-clause-kept
returns-in-Ex-clause-kept c = c.name_chosen.ensures.kept

pub returns-in-Ex-clause-facts : goal.returns-in-Ex-clause-facts
returns-in-Ex-clause-facts c = c.name_chosen.ensures.facts

pub returns-in-Ex-clause-gives : goal.returns-in-Ex-clause-gives
returns-in-Ex-clause-gives c =
    let a = c.args.ty.now in
    let b = c.args.body.now in
    subst (λ f. IfOk c.name_chosen.result (λ r. Gives c.name_chosen.new.log r.0 (seq set.empty (equal a (chosen a f) (chosen_value a f)))))
    (c.requires.property ∙ ap (λ q. property q a b) (sym c.in-Ex.is)) c.name_chosen.ensures.gives

pub returns-in-All-clause-kept : goal.returns-in-All-clause-kept
returns-in-All-clause-kept c = c.name_failing.ensures.kept

pub returns-in-All-clause-facts : goal.returns-in-All-clause-facts
returns-in-All-clause-facts c = c.name_failing.ensures.facts

pub returns-in-All-clause-gives : goal.returns-in-All-clause-gives
returns-in-All-clause-gives c =
    let a = c.args.ty.now in
    let b = c.args.body.now in
    subst (λ f. IfOk c.name_failing.result (λ r. Gives c.name_failing.new.log r.0 (seq set.empty (equal a (chosen a f) (chosen_value a f)))))
    (ap (λ q. property q a b) (sym c.in-All.is)) c.name_failing.ensures.gives
