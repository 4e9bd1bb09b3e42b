use Rattle.std.proofs.Common.{◌<◌, length, IsTrue, sym, ◌∙◌, ap, subst}
use Rattle.hol_terms.specs.Formulas.{is_formula}
use Rattle.hyp_sets.specs.Sets.{all_in}
use Rattle.hyp_sets.proofs.Members.{each_all_in}
use Rattle.kernel_rules.proofs.OverSignature.{derived_over}
use Rattle.hol_kernel.specs.Logs.{thm}
use Rattle.hol_kernel.proofs.Places.{seq_at_got}
use Rattle.hol_kernel.proofs.log.Log.hypotheses.Goals as goal

pub at-requires : goal.at-requires
at-requires c = subst (λ l. c.args.a.0 < length l.sequents) (sym c.self.view_is) c.requires

pub returns-clause-value : goal.returns-clause-value
returns-clause-value c = ap (λ q. q.hyps) (seq_at_got c.self.inside.sequents c.args.a.0 c.at.result.now c.at.ensures) ∙ ap (λ l. (thm l c.args.a.0).hyps) c.self.view_is

pub returns-clause-formulas : goal.returns-clause-formulas
returns-clause-formulas c =
    let over = derived_over c.self.inside.env.now c.self.inside.steps c.self.inside.sequents c.self.invariant c.args.a.0 c.at.result.now c.at.ensures in
    subst (λ l. IsTrue (all_in (is_formula l.env.sig) c.at.result.now.hyps)) c.self.view_is
    (each_all_in (is_formula c.self.inside.env.now.sig) c.at.result.now.hyps (λ x h. over.hyps x h))
