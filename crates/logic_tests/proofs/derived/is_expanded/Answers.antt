use Rattle.std.proofs.Common.{◌<◌, sym, subst}
use Rattle.hol_terms.specs.Formulas.{IsFormula}
use Rattle.logic_tests.proofs.derived.is_expanded.Goals as goal

pub conclusion-requires : goal.conclusion-requires
conclusion-requires c = subst (λ n. c.args.target.0 < n) c.len.ensures.theorems c.if-target-len.false

pub expand-expanded-requires : goal.expand-expanded-requires
expand-expanded-requires c = subst (IsFormula c.args.log.now.env.sig) (sym c.in_ok-formula.ensures) c.conclusion.ensures.formula
