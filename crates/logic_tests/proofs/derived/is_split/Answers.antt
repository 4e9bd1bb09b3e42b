use Rattle.std.proofs.Common.{◌<◌, refl, sym, ◌∙◌, ap, subst}
use Rattle.hol_terms.specs.Formulas.{IsFormula}
use Rattle.logic_tests.proofs.derived.is_split.Goals as goal

pub conclusion-requires : goal.conclusion-requires
conclusion-requires c = subst (λ n. c.args.yes.0 < n) c.len-2.ensures.theorems c.if-yes-len.false

pub conclusion-requires-2 : goal.conclusion-requires-2
conclusion-requires-2 c = subst (λ n. c.args.no.0 < n) c.len-3.ensures.theorems c.if-no-len.false

pub conclusion-requires-3 : goal.conclusion-requires-3
conclusion-requires-3 c = subst (λ n. c.args.of.0 < n) c.len.ensures.theorems c.if-of-len.false

pub cases-split-requires-clause-p : goal.cases-split-requires-clause-p
cases-split-requires-clause-p c = subst (IsFormula c.args.log.now.env.sig) (sym c.in_ok-formula.ensures) c.conclusion-3.ensures.formula

pub cases-split-requires-clause-yes : goal.cases-split-requires-clause-yes
cases-split-requires-clause-yes c = subst (λ n. c.args.yes.0 < n) c.len-2.ensures.theorems c.if-yes-len.false

pub cases-split-requires-clause-no : goal.cases-split-requires-clause-no
cases-split-requires-clause-no c = subst (λ n. c.args.no.0 < n) c.len-3.ensures.theorems c.if-no-len.false

pub cases-split-requires-clause-alike : goal.cases-split-requires-clause-alike
cases-split-requires-clause-alike c = sym c.conclusion.ensures.value ∙ c.if-not-same.ensures.0 refl ∙ c.conclusion-2.ensures.value
