use Rattle.std.proofs.Common.{◌∙◌}
use Rattle.std.specs.FinSet as set
use Rattle.kernel_rules.specs.Connectives.{neg, conj}
use Rattle.kernel_rules.specs.Rules.{seq}
use Rattle.hol_kernel.proofs.Growing.{extends_trans, thm_stays}
use Rattle.hol_kernel.proofs.Making.{err_free}
use Rattle.hol_derived.proofs.Cuts.{gives_as}
use Rattle.hol_derived.proofs.Splits.{formula_stays}
use Rattle.hol_refutations.proofs.Steps.{stays_false}
use Rattle.hol_refutations.proofs.propositional.both.Goals as goal

pub classical-requires-clause-t : goal.classical-requires-clause-t
classical-requires-clause-t c = c.requires.a

pub classical-requires-clause-a : goal.classical-requires-clause-a
classical-requires-clause-a c = c.requires.left

pub classical-requires-clause-fits : goal.classical-requires-clause-fits
classical-requires-clause-fits c = c.requires.left_false

pub classical-requires-2-clause-t : goal.classical-requires-2-clause-t
classical-requires-2-clause-t c = formula_stays c.args.log.now c.classical.new.self c.args.b.now c.classical.ensures.kept c.requires.b

pub classical-requires-2-clause-a : goal.classical-requires-2-clause-a
classical-requires-2-clause-a c = thm_stays _ _ _ c.classical.ensures.kept c.requires.right

pub classical-requires-2-clause-fits : goal.classical-requires-2-clause-fits
classical-requires-2-clause-fits c = stays_false c.args.log.now c.classical.new.self c.args.right.0 c.classical.ensures.kept c.requires.right c.requires.right_false

pub and_intro-requires-clause-a : goal.and_intro-requires-clause-a
and_intro-requires-clause-a c = thm_stays _ _ _ c.classical-2.ensures.kept c.in_ok-first.ensures.gives.is_thm

pub and_intro-requires-clause-b : goal.and_intro-requires-clause-b
and_intro-requires-clause-b c = c.in_ok-second.ensures.gives.is_thm

pub returns-in_err-first-clause-kept : goal.returns-in_err-first-clause-kept
returns-in_err-first-clause-kept c = c.classical.ensures.kept

pub returns-in_err-first-clause-facts : goal.returns-in_err-first-clause-facts
returns-in_err-first-clause-facts c = c.classical.ensures.facts

pub returns-in_err-first-clause-gives : goal.returns-in_err-first-clause-gives
returns-in_err-first-clause-gives c = err_free c.from_residual.result _ c.from_residual.ensures.0

pub returns-in_err-second-clause-kept : goal.returns-in_err-second-clause-kept
returns-in_err-second-clause-kept c = extends_trans _ _ _ c.classical.ensures.kept c.classical-2.ensures.kept

pub returns-in_err-second-clause-facts : goal.returns-in_err-second-clause-facts
returns-in_err-second-clause-facts c = c.classical-2.ensures.facts ∙ c.classical.ensures.facts

pub returns-in_err-second-clause-gives : goal.returns-in_err-second-clause-gives
returns-in_err-second-clause-gives c = err_free c.from_residual-in_err-second.result _ c.from_residual-in_err-second.ensures.0

pub returns-clause-kept : goal.returns-clause-kept
returns-clause-kept c = extends_trans _ _ _ (extends_trans _ _ _ c.classical.ensures.kept c.classical-2.ensures.kept) c.and_intro.ensures.kept

pub returns-clause-facts : goal.returns-clause-facts
returns-clause-facts c = c.and_intro.ensures.facts ∙ (c.classical-2.ensures.facts ∙ c.classical.ensures.facts)

pub returns-clause-gives : goal.returns-clause-gives
returns-clause-gives c = gives_as c.and_intro.result c.and_intro.new.self _ _ ((λ i. seq (set.union ((c.classical-2.ensures.kept.earlier c.in_ok-first.first.0 c.in_ok-first.ensures.gives.is_thm i).hyps) ((c.in_ok-second.ensures.gives.is i).hyps)) (conj ((c.classical-2.ensures.kept.earlier c.in_ok-first.first.0 c.in_ok-first.ensures.gives.is_thm i).concl) ((c.in_ok-second.ensures.gives.is i).concl))) ∙ (λ i. seq (set.union ((c.in_ok-first.ensures.gives.is i).hyps) (set.remove ((c.classical.ensures.kept.earlier c.args.right.0 c.requires.right i).hyps) (neg c.args.b.now))) (conj ((c.in_ok-first.ensures.gives.is i).concl) c.args.b.now))) c.and_intro.ensures.gives
