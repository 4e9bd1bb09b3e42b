use Rattle.std.proofs.Common.{refl, sym, ◌∙◌, ap, [], ◌∷◌, Some}
use Rattle.std.specs.FinSet as set
use Rattle.hyp_sets.specs.Sets.{only}
use Rattle.kernel_rules.specs.Connectives.{equal, left_of, right_of, is_equal}
use Rattle.kernel_rules.specs.Rules.{seq}
use Rattle.kernel_rules.proofs.Parts.{right_of-apply, left_of-two, is_equal-equal}
use Rattle.hol_kernel.specs.Logs.{thm}
use Rattle.hol_kernel.proofs.Growing.{extends_refl, extends_trans, thm_stays}
use Rattle.hol_kernel.proofs.Making.{err_free}
use Rattle.hol_derived.specs.Paths.{part_at, replaced_at}
use Rattle.hol_derived.proofs.Cuts.{gives_as}
use Rattle.hol_terms.specs.Types.{bool_ty}
use Rattle.hol_refutations.proofs.Steps.{denial_part, denial_replaced}
use Rattle.hol_refutations.proofs.equality.carried_denial.Goals as goal

pub supposed_equal-requires : goal.supposed_equal-requires
supposed_equal-requires c = c.requires.whole

pub replace_at-requires-clause-eq : goal.replace_at-requires-clause-eq
replace_at-requires-clause-eq c = c.in_ok-whole.ensures.gives.is_thm

pub replace_at-requires-clause-th : goal.replace_at-requires-clause-th
replace_at-requires-clause-th c = thm_stays _ _ _ c.supposed_equal.ensures.kept c.requires.th

pub replace_at-requires-clause-is : goal.replace_at-requires-clause-is
replace_at-requires-clause-is c = ap (λ q. is_equal q.concl) c.in_ok-whole.ensures.gives.is ∙ is_equal-equal _ c.args.a.now c.args.b.now

pub replace_at-requires-clause-part : goal.replace_at-requires-clause-part
replace_at-requires-clause-part c = ap (λ p. part_at p (thm c.supposed_equal.new.log c.args.th.0).concl) c.in_ok-path.ensures ∙ (ap (part_at (1 ∷ [])) (ap (λ q. q.concl) (c.supposed_equal.ensures.kept.earlier c.args.th.0 c.requires.th) ∙ c.requires.is) ∙ (denial_part c.args.a.now ∙ ap Some (sym (ap (λ q. left_of q.concl) c.in_ok-whole.ensures.gives.is ∙ left_of-two _ c.args.a.now c.args.b.now))))

pub returns-in_err-path-clause-kept : goal.returns-in_err-path-clause-kept
returns-in_err-path-clause-kept c = extends_refl c.args.log.now

pub returns-in_err-path-clause-facts : goal.returns-in_err-path-clause-facts
returns-in_err-path-clause-facts c = refl

pub returns-in_err-path-clause-gives : goal.returns-in_err-path-clause-gives
returns-in_err-path-clause-gives c = err_free c.from_residual.result _ c.from_residual.ensures.0

pub returns-in_err-whole-clause-kept : goal.returns-in_err-whole-clause-kept
returns-in_err-whole-clause-kept c = c.supposed_equal.ensures.kept

pub returns-in_err-whole-clause-facts : goal.returns-in_err-whole-clause-facts
returns-in_err-whole-clause-facts c = c.supposed_equal.ensures.facts

pub returns-in_err-whole-clause-gives : goal.returns-in_err-whole-clause-gives
returns-in_err-whole-clause-gives c = err_free c.from_residual-in_err-whole.result _ c.from_residual-in_err-whole.ensures.0

pub returns-clause-kept : goal.returns-clause-kept
returns-clause-kept c = extends_trans _ _ _ c.supposed_equal.ensures.kept c.replace_at.ensures.kept

pub returns-clause-facts : goal.returns-clause-facts
returns-clause-facts c = c.replace_at.ensures.facts ∙ c.supposed_equal.ensures.facts

pub returns-clause-gives : goal.returns-clause-gives
returns-clause-gives c = gives_as c.replace_at.result c.replace_at.new.log _ _ ((λ i. seq (set.union ((c.in_ok-whole.ensures.gives.is i).hyps) ((c.supposed_equal.ensures.kept.earlier c.args.th.0 c.requires.th i).hyps)) (replaced_at (c.in_ok-path.ensures i) ((ap (λ q. right_of q.concl) c.in_ok-whole.ensures.gives.is ∙ right_of-apply _ c.args.b.now) i) ((ap (λ q. q.concl) (c.supposed_equal.ensures.kept.earlier c.args.th.0 c.requires.th) ∙ c.requires.is) i))) ∙ ap (seq (set.union (only (equal bool_ty c.args.a.now c.args.b.now)) (thm c.args.log.now c.args.th.0).hyps)) (denial_replaced c.args.b.now c.args.a.now)) c.replace_at.ensures.gives
