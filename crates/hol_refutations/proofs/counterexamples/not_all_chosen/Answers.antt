use Rattle.std.proofs.Common.{◌∙◌}
use Rattle.hyp_sets.specs.Sets.{only}
use Rattle.kernel_rules.specs.Connectives.{neg, all, chosen, lambda}
use Rattle.hol_kernel.proofs.Growing.{extends_trans, thm_stays}
use Rattle.hol_kernel.proofs.Making.{err_free}
use Rattle.hol_derived.proofs.Cuts.{gives_as}
use Rattle.hol_terms.specs.Substitution.{instantiated}
use Rattle.hol_refutations.proofs.Steps.{cut_is}
use Rattle.hol_refutations.proofs.counterexamples.not_all_chosen.Goals as goal

pub picked-requires : goal.picked-requires
picked-requires c = c.requires.whole

pub cut-requires-clause-a : goal.cut-requires-clause-a
cut-requires-clause-a c = c.in_ok-part.ensures.gives.is_thm

pub cut-requires-clause-c : goal.cut-requires-clause-c
cut-requires-clause-c c = thm_stays _ _ _ c.picked.ensures.kept c.requires.th

pub returns-in_err-part-clause-kept : goal.returns-in_err-part-clause-kept
returns-in_err-part-clause-kept c = c.picked.ensures.kept

pub returns-in_err-part-clause-facts : goal.returns-in_err-part-clause-facts
returns-in_err-part-clause-facts c = c.picked.ensures.facts

pub returns-in_err-part-clause-gives : goal.returns-in_err-part-clause-gives
returns-in_err-part-clause-gives c = err_free c.from_residual.result _ c.from_residual.ensures.0

pub returns-clause-kept : goal.returns-clause-kept
returns-clause-kept c = extends_trans _ _ _ c.picked.ensures.kept c.cut.ensures.kept

pub returns-clause-facts : goal.returns-clause-facts
returns-clause-facts c = c.cut.ensures.facts ∙ c.picked.ensures.facts

pub returns-clause-gives : goal.returns-clause-gives
returns-clause-gives c = gives_as c.cut.result c.cut.new.log _ _ (cut_is c.args.log.now c.picked.new.log c.in_ok-part.part.0 c.args.th.0 (only (neg (all c.args.ty.now (lambda c.args.ty.now c.args.body.now)))) (neg (instantiated c.args.body.now (chosen c.args.ty.now (lambda c.args.ty.now (neg c.args.body.now))))) c.in_ok-part.ensures.gives c.picked.ensures.kept c.requires.th c.requires.refuted) c.cut.ensures.gives
