use Rattle.std.proofs.Common.{sym, ◌∙◌, ap}
use Rattle.std.specs.FinSet as set
use Rattle.kernel_rules.specs.Connectives.{neg, imp, equal, left_of, right_of, is_imp}
use Rattle.kernel_rules.specs.Rules.{seq}
use Rattle.kernel_rules.proofs.Parts.{right_of-apply, left_of-two, is_imp-imp}
use Rattle.hol_kernel.proofs.Growing.{extends_trans, thm_stays}
use Rattle.hol_kernel.proofs.Making.{err_free}
use Rattle.hol_derived.proofs.Cuts.{gives_as}
use Rattle.hol_derived.proofs.Splits.{formula_stays}
use Rattle.hol_terms.specs.Types.{bool_ty}
use Rattle.hol_refutations.proofs.Steps.{stays_false}
use Rattle.hol_refutations.proofs.equality.alike.Goals as goal

pub implied-requires-clause-a : goal.implied-requires-clause-a
implied-requires-clause-a c = c.requires.a

pub implied-requires-clause-b : goal.implied-requires-clause-b
implied-requires-clause-b c = c.requires.b

pub implied-requires-clause-th : goal.implied-requires-clause-th
implied-requires-clause-th c = c.requires.left

pub implied-requires-clause-refuted : goal.implied-requires-clause-refuted
implied-requires-clause-refuted c = c.requires.left_false

pub implied-requires-2-clause-a : goal.implied-requires-2-clause-a
implied-requires-2-clause-a c = formula_stays c.args.log.now c.implied.new.log c.args.b.now c.implied.ensures.kept c.requires.b

pub implied-requires-2-clause-b : goal.implied-requires-2-clause-b
implied-requires-2-clause-b c = formula_stays c.args.log.now c.implied.new.log c.args.a.now c.implied.ensures.kept c.requires.a

pub implied-requires-2-clause-th : goal.implied-requires-2-clause-th
implied-requires-2-clause-th c = thm_stays _ _ _ c.implied.ensures.kept c.requires.right

pub implied-requires-2-clause-refuted : goal.implied-requires-2-clause-refuted
implied-requires-2-clause-refuted c = stays_false c.args.log.now c.implied.new.log c.args.right.0 c.implied.ensures.kept c.requires.right c.requires.right_false

pub iff-requires-clause-ab : goal.iff-requires-clause-ab
iff-requires-clause-ab c = thm_stays _ _ _ c.implied-2.ensures.kept c.in_ok-there.ensures.gives.is_thm

pub iff-requires-clause-ba : goal.iff-requires-clause-ba
iff-requires-clause-ba c = c.in_ok-back.ensures.gives.is_thm

pub iff-requires-clause-is : goal.iff-requires-clause-is
iff-requires-clause-is c = ap (λ q. is_imp q.concl) (c.implied-2.ensures.kept.earlier c.in_ok-there.there.0 c.in_ok-there.ensures.gives.is_thm ∙ c.in_ok-there.ensures.gives.is) ∙ is_imp-imp c.args.a.now c.args.b.now

pub iff-requires-clause-converse : goal.iff-requires-clause-converse
iff-requires-clause-converse c = ap (λ q. q.concl) c.in_ok-back.ensures.gives.is ∙ (λ i. imp ((sym (ap (λ q. right_of q.concl) (c.implied-2.ensures.kept.earlier c.in_ok-there.there.0 c.in_ok-there.ensures.gives.is_thm ∙ c.in_ok-there.ensures.gives.is) ∙ right_of-apply _ c.args.b.now)) i) ((sym (ap (λ q. left_of q.concl) (c.implied-2.ensures.kept.earlier c.in_ok-there.there.0 c.in_ok-there.ensures.gives.is_thm ∙ c.in_ok-there.ensures.gives.is) ∙ left_of-two _ c.args.a.now c.args.b.now)) i))

pub returns-in_err-there-clause-kept : goal.returns-in_err-there-clause-kept
returns-in_err-there-clause-kept c = c.implied.ensures.kept

pub returns-in_err-there-clause-facts : goal.returns-in_err-there-clause-facts
returns-in_err-there-clause-facts c = c.implied.ensures.facts

pub returns-in_err-there-clause-gives : goal.returns-in_err-there-clause-gives
returns-in_err-there-clause-gives c = err_free c.from_residual.result _ c.from_residual.ensures.0

pub returns-in_err-back-clause-kept : goal.returns-in_err-back-clause-kept
returns-in_err-back-clause-kept c = extends_trans _ _ _ c.implied.ensures.kept c.implied-2.ensures.kept

pub returns-in_err-back-clause-facts : goal.returns-in_err-back-clause-facts
returns-in_err-back-clause-facts c = c.implied-2.ensures.facts ∙ c.implied.ensures.facts

pub returns-in_err-back-clause-gives : goal.returns-in_err-back-clause-gives
returns-in_err-back-clause-gives c = err_free c.from_residual-in_err-back.result _ c.from_residual-in_err-back.ensures.0

pub returns-clause-kept : goal.returns-clause-kept
returns-clause-kept c = extends_trans _ _ _ (extends_trans _ _ _ c.implied.ensures.kept c.implied-2.ensures.kept) c.iff.ensures.kept

pub returns-clause-facts : goal.returns-clause-facts
returns-clause-facts c = c.iff.ensures.facts ∙ (c.implied-2.ensures.facts ∙ c.implied.ensures.facts)

pub returns-clause-gives : goal.returns-clause-gives
returns-clause-gives c = gives_as c.iff.result c.iff.new.self _ _ ((λ i. seq (set.union (((c.implied-2.ensures.kept.earlier c.in_ok-there.there.0 c.in_ok-there.ensures.gives.is_thm ∙ c.in_ok-there.ensures.gives.is) i).hyps) (((c.in_ok-back.ensures.gives.is ∙ ap (λ q. seq (set.remove (set.remove q.hyps (neg c.args.a.now)) c.args.b.now) (imp c.args.b.now c.args.a.now)) (c.implied.ensures.kept.earlier c.args.right.0 c.requires.right)) i).hyps)) (equal bool_ty ((ap (λ q. left_of q.concl) (c.implied-2.ensures.kept.earlier c.in_ok-there.there.0 c.in_ok-there.ensures.gives.is_thm ∙ c.in_ok-there.ensures.gives.is) ∙ left_of-two _ c.args.a.now c.args.b.now) i) ((ap (λ q. right_of q.concl) (c.implied-2.ensures.kept.earlier c.in_ok-there.there.0 c.in_ok-there.ensures.gives.is_thm ∙ c.in_ok-there.ensures.gives.is) ∙ right_of-apply _ c.args.b.now) i)))) c.iff.ensures.gives
