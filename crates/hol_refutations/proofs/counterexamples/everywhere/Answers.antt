use Rattle.std.proofs.Common.{refl, sym, ◌∙◌, ap, subst, IsTrue}
use Rattle.std.specs.FinSet as set
use Rattle.hol_terms.specs.Formulas.{IsFormula}
use Rattle.kernel_rules.specs.Connectives.{neg, all}
use Rattle.kernel_rules.specs.Rules.{seq}
use Rattle.hol_kernel.specs.Logs.{thm}
use Rattle.hol_kernel.proofs.Growing.{extends_refl, extends_trans}
use Rattle.hol_kernel.proofs.Making.{err_free}
use Rattle.hol_derived.proofs.Cuts.{gives_as}
use Rattle.hol_terms.specs.declared.term.Term.{Free}
use Rattle.hol_terms.specs.Substitution.{instantiated}
use Rattle.kernel_rules.specs.Connectives.{lambda_over}
use Rattle.hol_terms.specs.Types.{ty_fits}
use Rattle.hyp_sets.specs.Sets.{absent}
use Rattle.hol_refutations.proofs.Failures.{closed_again, bound_fits, part_formula}
use Rattle.hol_refutations.proofs.counterexamples.everywhere.Goals as goal

pub classical_own-requires-clause-t : goal.classical_own-requires-clause-t
classical_own-requires-clause-t c = subst (IsFormula c.args.log.now.env.sig) (sym c.in_ok-part.ensures) (part_formula c.args.log.now.env.sig c.args.ty.now c.args.body.now c.requires.whole c.args.n)

pub classical_own-requires-clause-a : goal.classical_own-requires-clause-a
classical_own-requires-clause-a c = c.requires.th

pub classical_own-requires-clause-fits : goal.classical_own-requires-clause-fits
classical_own-requires-clause-fits c = c.requires.refuted

pub all_intro-requires-clause-ty : goal.all_intro-requires-clause-ty
all_intro-requires-clause-ty c = subst (λ e. IsTrue (ty_fits e.sig.types c.args.ty.now)) (sym c.classical_own.ensures.kept.env) (bound_fits c.args.log.now.env.sig c.args.ty.now c.args.body.now c.requires.whole)

pub all_intro-requires-clause-a : goal.all_intro-requires-clause-a
all_intro-requires-clause-a c = c.in_ok-held.ensures.gives.is_thm

pub all_intro-requires-clause-lacks : goal.all_intro-requires-clause-lacks
all_intro-requires-clause-lacks c = subst (λ s. IsTrue (absent c.args.n c.args.ty.now s)) (sym (ap (λ q. q.hyps) c.in_ok-held.ensures.gives.is ∙ ap (λ z. set.remove (thm c.args.log.now c.args.th.0).hyps (neg z)) c.in_ok-part.ensures)) c.requires.lacks

pub returns-in_err-part-clause-kept : goal.returns-in_err-part-clause-kept
returns-in_err-part-clause-kept c = extends_refl c.args.log.now

pub returns-in_err-part-clause-facts : goal.returns-in_err-part-clause-facts
returns-in_err-part-clause-facts c = refl

pub returns-in_err-part-clause-gives : goal.returns-in_err-part-clause-gives
returns-in_err-part-clause-gives c = err_free c.from_residual.result _ c.from_residual.ensures.0

pub returns-in_err-held-clause-kept : goal.returns-in_err-held-clause-kept
returns-in_err-held-clause-kept c = c.classical_own.ensures.kept

pub returns-in_err-held-clause-facts : goal.returns-in_err-held-clause-facts
returns-in_err-held-clause-facts c = c.classical_own.ensures.facts

pub returns-in_err-held-clause-gives : goal.returns-in_err-held-clause-gives
returns-in_err-held-clause-gives c = err_free c.from_residual-in_err-held.result _ c.from_residual-in_err-held.ensures.0

pub returns-clause-kept : goal.returns-clause-kept
returns-clause-kept c = extends_trans _ _ _ c.classical_own.ensures.kept c.all_intro.ensures.kept

pub returns-clause-facts : goal.returns-clause-facts
returns-clause-facts c = c.all_intro.ensures.facts ∙ c.classical_own.ensures.facts

pub returns-clause-gives : goal.returns-clause-gives
returns-clause-gives c = gives_as c.all_intro.result c.all_intro.new.self _ _ ((λ i. seq ((c.in_ok-held.ensures.gives.is i).hyps) (all c.args.ty.now (lambda_over c.args.n c.args.ty.now ((c.in_ok-held.ensures.gives.is i).concl)))) ∙ (ap (λ z. seq (set.remove (thm c.args.log.now c.args.th.0).hyps (neg z)) (all c.args.ty.now (lambda_over c.args.n c.args.ty.now z))) c.in_ok-part.ensures ∙ ap (seq (set.remove (thm c.args.log.now c.args.th.0).hyps (neg (instantiated c.args.body.now (Free c.args.n c.args.ty.now))))) (closed_again c.args.n c.args.ty.now c.args.body.now c.requires.fresh))) c.all_intro.ensures.gives
