use Rattle.std.proofs.Common.{sym, ◌∙◌, ap, subst}
use Rattle.std.specs.FinSet as set
use Rattle.hyp_sets.specs.Sets.{only}
use Rattle.kernel_rules.specs.Connectives.{some, chosen, left_of, right_of, head_ty, is_equal, applied_to}
use Rattle.kernel_rules.specs.Rules.{seq}
use Rattle.kernel_rules.proofs.Parts.{left_of-two, head_ty-two, is_equal-equal}
use Rattle.hol_kernel.specs.Logs.{thm}
use Rattle.hol_kernel.proofs.Growing.{extends_trans, thm_stays}
use Rattle.hol_kernel.proofs.Making.{err_free}
use Rattle.hol_derived.proofs.Cuts.{gives_as}
use Rattle.hol_derived.proofs.Unions.{none_joined}
use Rattle.hol_derived.proofs.Splits.{formula_stays}
use Rattle.hol_terms.specs.declared.konst.Konst.TheVariants as konst
use Rattle.hol_kernel.specs.Conditions.{IsProperty}
use Rattle.kernel_rules.specs.Connectives.{constant}
use Rattle.hol_refutations.proofs.Steps.{gives_is, cut_is, some_gives_property}
use Rattle.hol_refutations.proofs.choices.some_named.Goals as goal

pub picked-requires : goal.picked-requires
picked-requires c = c.requires.whole

pub subst-requires-clause-eq : goal.subst-requires-clause-eq
subst-requires-clause-eq c = thm_stays _ _ _ c.picked.ensures.kept c.requires.name

pub subst-requires-clause-a : goal.subst-requires-clause-a
subst-requires-clause-a c = c.in_ok-part.ensures.gives.is_thm

pub subst-requires-clause-is : goal.subst-requires-clause-is
subst-requires-clause-is c = ap (λ q. is_equal q.concl) ((c.picked.ensures.kept.earlier c.args.name.0 c.requires.name) ∙ c.requires.names) ∙ is_equal-equal c.args.ty.now (chosen c.args.ty.now c.args.f.now) (right_of (thm c.args.log.now c.args.name.0).concl)

pub subst-requires-clause-f : goal.subst-requires-clause-f
subst-requires-clause-f c = subst (IsProperty c.picked.new.log.env.sig c.args.f.now) (sym (ap (λ q. head_ty q.concl) ((c.picked.ensures.kept.earlier c.args.name.0 c.requires.name) ∙ c.requires.names) ∙ head_ty-two (konst.Eq c.args.ty.now) (chosen c.args.ty.now c.args.f.now) (right_of (thm c.args.log.now c.args.name.0).concl))) (some_gives_property c.picked.new.log.env.sig c.args.ty.now c.args.f.now (formula_stays c.args.log.now c.picked.new.log (some c.args.ty.now c.args.f.now) c.picked.ensures.kept c.requires.whole))

pub subst-requires-clause-fits : goal.subst-requires-clause-fits
subst-requires-clause-fits c = ap (λ q. q.concl) c.in_ok-part.ensures.gives.is ∙ ap (applied_to c.args.f.now) (sym (ap (λ q. left_of q.concl) ((c.picked.ensures.kept.earlier c.args.name.0 c.requires.name) ∙ c.requires.names) ∙ left_of-two (constant (konst.Eq c.args.ty.now)) (chosen c.args.ty.now c.args.f.now) (right_of (thm c.args.log.now c.args.name.0).concl)))

pub cut-requires-clause-a : goal.cut-requires-clause-a
cut-requires-clause-a c = c.in_ok-there.ensures.gives.is_thm

pub cut-requires-clause-c : goal.cut-requires-clause-c
cut-requires-clause-c c = thm_stays _ _ _ (extends_trans _ _ _ c.picked.ensures.kept c.subst.ensures.kept) c.requires.th

pub returns-in_err-part-clause-kept : goal.returns-in_err-part-clause-kept
returns-in_err-part-clause-kept c = c.picked.ensures.kept

pub returns-in_err-part-clause-facts : goal.returns-in_err-part-clause-facts
returns-in_err-part-clause-facts c = c.picked.ensures.facts

pub returns-in_err-part-clause-gives : goal.returns-in_err-part-clause-gives
returns-in_err-part-clause-gives c = err_free c.from_residual.result _ c.from_residual.ensures.0

pub returns-in_err-there-clause-kept : goal.returns-in_err-there-clause-kept
returns-in_err-there-clause-kept c = extends_trans _ _ _ c.picked.ensures.kept c.subst.ensures.kept

pub returns-in_err-there-clause-facts : goal.returns-in_err-there-clause-facts
returns-in_err-there-clause-facts c = c.subst.ensures.facts ∙ c.picked.ensures.facts

pub returns-in_err-there-clause-gives : goal.returns-in_err-there-clause-gives
returns-in_err-there-clause-gives c = err_free c.from_residual-in_err-there.result _ c.from_residual-in_err-there.ensures.0

pub returns-clause-kept : goal.returns-clause-kept
returns-clause-kept c = extends_trans _ _ _ (extends_trans _ _ _ c.picked.ensures.kept c.subst.ensures.kept) c.cut.ensures.kept

pub returns-clause-facts : goal.returns-clause-facts
returns-clause-facts c = c.cut.ensures.facts ∙ (c.subst.ensures.facts ∙ c.picked.ensures.facts)

pub returns-clause-gives : goal.returns-clause-gives
returns-clause-gives c = gives_as c.cut.result c.cut.new.log _ _ (cut_is c.args.log.now c.subst.new.self c.in_ok-there.there.0 c.args.th.0 (only (some c.args.ty.now c.args.f.now)) (applied_to c.args.f.now (right_of (thm c.args.log.now c.args.name.0).concl)) (gives_is _ _ _ _ c.in_ok-there.ensures.gives ((λ i. seq (set.union ((((c.picked.ensures.kept.earlier c.args.name.0 c.requires.name) ∙ c.requires.names) i).hyps) ((c.in_ok-part.ensures.gives.is i).hyps)) (applied_to c.args.f.now (right_of (((c.picked.ensures.kept.earlier c.args.name.0 c.requires.name) i).concl)))) ∙ ap (λ s. seq s (applied_to c.args.f.now (right_of (thm c.args.log.now c.args.name.0).concl))) (none_joined (only (some c.args.ty.now c.args.f.now))))) (extends_trans _ _ _ c.picked.ensures.kept c.subst.ensures.kept) c.requires.th c.requires.refuted) c.cut.ensures.gives
