use Rattle.std.proofs.Common.{sym, ◌∙◌, ap, subst}
use Rattle.hyp_sets.specs.Sets.{only}
use Rattle.kernel_rules.specs.Connectives.{all, right_of, head_ty, is_all, applied_to}
use Rattle.kernel_rules.specs.Rules.{seq}
use Rattle.kernel_rules.proofs.Parts.{right_of-apply, head_ty-one, is_all-all}
use Rattle.hol_kernel.proofs.Growing.{extends_trans, thm_stays}
use Rattle.hol_kernel.proofs.Making.{err_free}
use Rattle.hol_derived.proofs.Cuts.{gives_as}
use Rattle.hol_terms.specs.declared.konst.Konst.TheVariants as konst
use Rattle.hol_kernel.specs.Conditions.{IsGiven}
use Rattle.hol_refutations.proofs.Steps.{gives_is, cut_is, given_stays}
use Rattle.hol_refutations.proofs.quantifiers.all_at.Goals as goal

pub supposed_all-requires : goal.supposed_all-requires
supposed_all-requires c = c.requires.whole

pub all_elim-requires-clause-a : goal.all_elim-requires-clause-a
all_elim-requires-clause-a c = c.in_ok-whole.ensures.gives.is_thm

pub all_elim-requires-clause-fits : goal.all_elim-requires-clause-fits
all_elim-requires-clause-fits c = ap (λ q. is_all q.concl) c.in_ok-whole.ensures.gives.is ∙ is_all-all c.args.ty.now c.args.f.now

pub all_elim-requires-clause-t : goal.all_elim-requires-clause-t
all_elim-requires-clause-t c = subst (IsGiven c.supposed_all.new.log.env.sig c.args.u.now) (sym (ap (λ q. head_ty q.concl) c.in_ok-whole.ensures.gives.is ∙ head_ty-one (konst.All c.args.ty.now) c.args.f.now)) (given_stays c.args.log.now c.supposed_all.new.log c.args.u.now c.args.ty.now c.supposed_all.ensures.kept c.requires.value)

pub cut-requires-clause-a : goal.cut-requires-clause-a
cut-requires-clause-a c = c.in_ok-part.ensures.gives.is_thm

pub cut-requires-clause-c : goal.cut-requires-clause-c
cut-requires-clause-c c = thm_stays _ _ _ (extends_trans _ _ _ c.supposed_all.ensures.kept c.all_elim.ensures.kept) c.requires.th

pub returns-in_err-whole-clause-kept : goal.returns-in_err-whole-clause-kept
returns-in_err-whole-clause-kept c = c.supposed_all.ensures.kept

pub returns-in_err-whole-clause-facts : goal.returns-in_err-whole-clause-facts
returns-in_err-whole-clause-facts c = c.supposed_all.ensures.facts

pub returns-in_err-whole-clause-gives : goal.returns-in_err-whole-clause-gives
returns-in_err-whole-clause-gives c = err_free c.from_residual.result _ c.from_residual.ensures.0

pub returns-in_err-part-clause-kept : goal.returns-in_err-part-clause-kept
returns-in_err-part-clause-kept c = extends_trans _ _ _ c.supposed_all.ensures.kept c.all_elim.ensures.kept

pub returns-in_err-part-clause-facts : goal.returns-in_err-part-clause-facts
returns-in_err-part-clause-facts c = c.all_elim.ensures.facts ∙ c.supposed_all.ensures.facts

pub returns-in_err-part-clause-gives : goal.returns-in_err-part-clause-gives
returns-in_err-part-clause-gives c = err_free c.from_residual-in_err-part.result _ c.from_residual-in_err-part.ensures.0

pub returns-clause-kept : goal.returns-clause-kept
returns-clause-kept c = extends_trans _ _ _ (extends_trans _ _ _ c.supposed_all.ensures.kept c.all_elim.ensures.kept) c.cut.ensures.kept

pub returns-clause-facts : goal.returns-clause-facts
returns-clause-facts c = c.cut.ensures.facts ∙ (c.all_elim.ensures.facts ∙ c.supposed_all.ensures.facts)

pub returns-clause-gives : goal.returns-clause-gives
returns-clause-gives c = gives_as c.cut.result c.cut.new.log _ _ (cut_is c.args.log.now c.all_elim.new.self c.in_ok-part.part.0 c.args.th.0 (only (all c.args.ty.now c.args.f.now)) (applied_to c.args.f.now c.args.u.now) (gives_is _ _ _ _ c.in_ok-part.ensures.gives (ap (λ q. seq q.hyps (applied_to (right_of q.concl) c.args.u.now)) c.in_ok-whole.ensures.gives.is ∙ ap (λ z. seq (only (all c.args.ty.now c.args.f.now)) (applied_to z c.args.u.now)) (right_of-apply _ c.args.f.now))) (extends_trans _ _ _ c.supposed_all.ensures.kept c.all_elim.ensures.kept) c.requires.th c.requires.refuted) c.cut.ensures.gives
