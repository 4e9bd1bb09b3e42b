use Rattle.std.proofs.Common.{sym, subst}
use Rattle.hol_terms.specs.Formulas.{IsFormula}
use Rattle.kernel_rules.proofs.TypedTerms.{neg_formula}
use Rattle.hol_clausify.proofs.lifting.supposed_denial.Goals as goal

pub assume_own-requires : goal.assume_own-requires
assume_own-requires c = subst (IsFormula c.args.log.now.env.sig) (sym c.in_ok-denial.ensures) (neg_formula c.args.log.now.env.sig c.args.formula.now c.requires)
