use Rattle.std.proofs.Common.{sym, ◌∙◌, ap}
use Rattle.std.specs.FinSet as set
use Rattle.kernel_rules.specs.Connectives.{imp, right_of}
use Rattle.kernel_rules.specs.Rules.{seq}
use Rattle.kernel_rules.proofs.Parts.{right_of-apply}
use Rattle.hol_kernel.proofs.Growing.{extends_trans, thm_stays}
use Rattle.hol_kernel.proofs.Making.{err_free}
use Rattle.hol_derived.proofs.Cuts.{gives_as}
use Rattle.hol_refutations.proofs.propositional.detached.Goals as goal

pub supposed_imp-requires-clause-a : goal.supposed_imp-requires-clause-a
supposed_imp-requires-clause-a c = c.requires.a

pub supposed_imp-requires-clause-b : goal.supposed_imp-requires-clause-b
supposed_imp-requires-clause-b c = c.requires.b

pub imp_elim-requires-clause-ab : goal.imp_elim-requires-clause-ab
imp_elim-requires-clause-ab c = c.in_ok-whole.ensures.gives.is_thm

pub imp_elim-requires-clause-a : goal.imp_elim-requires-clause-a
imp_elim-requires-clause-a c = thm_stays _ _ _ c.supposed_imp.ensures.kept c.requires.th

pub imp_elim-requires-clause-fits : goal.imp_elim-requires-clause-fits
imp_elim-requires-clause-fits c = ap (λ q. q.concl) c.in_ok-whole.ensures.gives.is ∙ (λ i. imp ((sym (ap (λ q. q.concl) (c.supposed_imp.ensures.kept.earlier c.args.th.0 c.requires.th) ∙ c.requires.is)) i) ((sym (ap (λ q. right_of q.concl) c.in_ok-whole.ensures.gives.is ∙ right_of-apply _ c.args.b.now)) i))

pub returns-in_err-whole-clause-kept : goal.returns-in_err-whole-clause-kept
returns-in_err-whole-clause-kept c = c.supposed_imp.ensures.kept

pub returns-in_err-whole-clause-facts : goal.returns-in_err-whole-clause-facts
returns-in_err-whole-clause-facts c = c.supposed_imp.ensures.facts

pub returns-in_err-whole-clause-gives : goal.returns-in_err-whole-clause-gives
returns-in_err-whole-clause-gives c = err_free c.from_residual.result _ c.from_residual.ensures.0

pub returns-clause-kept : goal.returns-clause-kept
returns-clause-kept c = extends_trans _ _ _ c.supposed_imp.ensures.kept c.imp_elim.ensures.kept

pub returns-clause-facts : goal.returns-clause-facts
returns-clause-facts c = c.imp_elim.ensures.facts ∙ c.supposed_imp.ensures.facts

pub returns-clause-gives : goal.returns-clause-gives
returns-clause-gives c = gives_as c.imp_elim.result c.imp_elim.new.self _ _ ((λ i. seq (set.union ((c.in_ok-whole.ensures.gives.is i).hyps) ((c.supposed_imp.ensures.kept.earlier c.args.th.0 c.requires.th i).hyps)) ((ap (λ q. right_of q.concl) c.in_ok-whole.ensures.gives.is ∙ right_of-apply _ c.args.b.now) i))) c.imp_elim.ensures.gives
