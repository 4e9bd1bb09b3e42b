use Rattle.std.proofs.Common.{◌<◌, length, sym, ◌∙◌, ap, subst}
use Rattle.hol_terms.specs.Formulas.{IsFormula}
use Rattle.kernel_rules.proofs.OverSignature.{derived_over}
use Rattle.hol_kernel.specs.Logs.{thm}
use Rattle.hol_kernel.proofs.Places.{seq_at_got}
use Rattle.hol_kernel.proofs.log.Log.conclusion.Goals as goal

pub at-requires : goal.at-requires
at-requires c = subst (λ l. c.args.a.0 < length l.sequents) (sym c.self.view_is) c.requires

pub returns-clause-value : goal.returns-clause-value
returns-clause-value c = ap (λ q. q.concl) (seq_at_got c.self.inside.sequents c.args.a.0 c.at.result.now c.at.ensures) ∙ ap (λ l. (thm l c.args.a.0).concl) c.self.view_is

pub returns-clause-formula : goal.returns-clause-formula
returns-clause-formula c =
    subst (λ l. IsFormula l.env.sig c.at.result.now.concl) c.self.view_is
    (derived_over c.self.inside.env.now c.self.inside.steps c.self.inside.sequents c.self.invariant c.args.a.0 c.at.result.now c.at.ensures).concl
