use Rattle.std.proofs.Common.{refl, sym, ap, subst}
use Rattle.std.specs.FinSet as set
use Rattle.hol_terms.specs.Formulas.{IsFormula}
use Rattle.kernel_rules.specs.Connectives.{neg}
use Rattle.kernel_rules.specs.Rules.{seq}
use Rattle.hol_kernel.specs.Logs.{thm}
use Rattle.hol_kernel.proofs.Growing.{extends_refl}
use Rattle.hol_kernel.proofs.Making.{err_free}
use Rattle.hol_derived.proofs.Cuts.{gives_as}
use Rattle.hol_refutations.proofs.Failures.{failure_formula}
use Rattle.hol_refutations.proofs.counterexamples.concluded.Goals as goal

pub classical_own-requires-clause-t : goal.classical_own-requires-clause-t
classical_own-requires-clause-t c = subst (IsFormula c.args.log.now.env.sig) (sym c.in_ok-whole.ensures) (failure_formula c.args.log.now.env.sig c.args.ty.now c.args.body.now c.requires.whole)

pub classical_own-requires-clause-a : goal.classical_own-requires-clause-a
classical_own-requires-clause-a c = c.requires.th

pub classical_own-requires-clause-fits : goal.classical_own-requires-clause-fits
classical_own-requires-clause-fits c = c.requires.refuted

pub returns-in_err-whole-clause-kept : goal.returns-in_err-whole-clause-kept
returns-in_err-whole-clause-kept c = extends_refl c.args.log.now

pub returns-in_err-whole-clause-facts : goal.returns-in_err-whole-clause-facts
returns-in_err-whole-clause-facts c = refl

pub returns-in_err-whole-clause-gives : goal.returns-in_err-whole-clause-gives
returns-in_err-whole-clause-gives c = err_free c.from_residual.result _ c.from_residual.ensures.0

pub returns-clause-kept : goal.returns-clause-kept
returns-clause-kept c = c.classical_own.ensures.kept

pub returns-clause-facts : goal.returns-clause-facts
returns-clause-facts c = c.classical_own.ensures.facts

pub returns-clause-gives : goal.returns-clause-gives
returns-clause-gives c = gives_as c.classical_own.result c.classical_own.new.self _ _ (ap (λ z. seq (set.remove (thm c.args.log.now c.args.th.0).hyps (neg z)) z) c.in_ok-whole.ensures) c.classical_own.ensures.gives
