use Rattle.std.proofs.Common.{◌<◌, sym, subst}
use Rattle.hol_terms.specs.Formulas.{IsFormula}
use Rattle.logic_tests.proofs.derived.is_middle.Goals as goal

pub conclusion-requires : goal.conclusion-requires
conclusion-requires c = subst (λ n. c.args.of.0 < n) c.len.ensures.theorems c.if-of-len.false

pub excluded_middle-middle-requires : goal.excluded_middle-middle-requires
excluded_middle-middle-requires c = subst (IsFormula c.args.log.now.env.sig) (sym c.in_ok-formula.ensures) c.conclusion.ensures.formula
