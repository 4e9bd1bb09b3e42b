use Rattle.std.proofs.Common.{sym, ◌∙◌, ap}
use Rattle.std.specs.FinSet as set
use Rattle.kernel_rules.specs.Connectives.{left_of, right_of, is_disj}
use Rattle.kernel_rules.specs.Rules.{seq}
use Rattle.kernel_rules.proofs.Parts.{right_of-apply, left_of-two, is_disj-disj}
use Rattle.hol_kernel.proofs.Growing.{extends_trans, thm_stays}
use Rattle.hol_kernel.proofs.Making.{err_free}
use Rattle.hol_derived.proofs.Cuts.{gives_as}
use Rattle.hol_refutations.proofs.Steps.{stays_false}
use Rattle.hol_refutations.proofs.propositional.or_both.Goals as goal

pub supposed_disj-requires-clause-a : goal.supposed_disj-requires-clause-a
supposed_disj-requires-clause-a c = c.requires.a

pub supposed_disj-requires-clause-b : goal.supposed_disj-requires-clause-b
supposed_disj-requires-clause-b c = c.requires.b

pub or_elim-requires-clause-ab : goal.or_elim-requires-clause-ab
or_elim-requires-clause-ab c = c.in_ok-whole.ensures.gives.is_thm

pub or_elim-requires-clause-l : goal.or_elim-requires-clause-l
or_elim-requires-clause-l c = thm_stays _ _ _ c.supposed_disj.ensures.kept c.requires.left

pub or_elim-requires-clause-r : goal.or_elim-requires-clause-r
or_elim-requires-clause-r c = thm_stays _ _ _ c.supposed_disj.ensures.kept c.requires.right

pub or_elim-requires-clause-fits : goal.or_elim-requires-clause-fits
or_elim-requires-clause-fits c = ap (λ q. is_disj q.concl) c.in_ok-whole.ensures.gives.is ∙ is_disj-disj c.args.a.now c.args.b.now

pub or_elim-requires-clause-alike : goal.or_elim-requires-clause-alike
or_elim-requires-clause-alike c = stays_false c.args.log.now c.supposed_disj.new.log c.args.left.0 c.supposed_disj.ensures.kept c.requires.left c.requires.left_false ∙ sym (stays_false c.args.log.now c.supposed_disj.new.log c.args.right.0 c.supposed_disj.ensures.kept c.requires.right c.requires.right_false)

pub returns-in_err-whole-clause-kept : goal.returns-in_err-whole-clause-kept
returns-in_err-whole-clause-kept c = c.supposed_disj.ensures.kept

pub returns-in_err-whole-clause-facts : goal.returns-in_err-whole-clause-facts
returns-in_err-whole-clause-facts c = c.supposed_disj.ensures.facts

pub returns-in_err-whole-clause-gives : goal.returns-in_err-whole-clause-gives
returns-in_err-whole-clause-gives c = err_free c.from_residual.result _ c.from_residual.ensures.0

pub returns-clause-kept : goal.returns-clause-kept
returns-clause-kept c = extends_trans _ _ _ c.supposed_disj.ensures.kept c.or_elim.ensures.kept

pub returns-clause-facts : goal.returns-clause-facts
returns-clause-facts c = c.or_elim.ensures.facts ∙ c.supposed_disj.ensures.facts

pub returns-clause-gives : goal.returns-clause-gives
returns-clause-gives c = gives_as c.or_elim.result c.or_elim.new.self _ _ ((λ i. seq (set.union (set.union ((c.in_ok-whole.ensures.gives.is i).hyps) (set.remove ((c.supposed_disj.ensures.kept.earlier c.args.left.0 c.requires.left i).hyps) ((ap (λ q. left_of q.concl) c.in_ok-whole.ensures.gives.is ∙ left_of-two _ c.args.a.now c.args.b.now) i))) (set.remove ((c.supposed_disj.ensures.kept.earlier c.args.right.0 c.requires.right i).hyps) ((ap (λ q. right_of q.concl) c.in_ok-whole.ensures.gives.is ∙ right_of-apply _ c.args.b.now) i))) ((stays_false c.args.log.now c.supposed_disj.new.log c.args.left.0 c.supposed_disj.ensures.kept c.requires.left c.requires.left_false) i))) c.or_elim.ensures.gives
