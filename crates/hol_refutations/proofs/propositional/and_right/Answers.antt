use Rattle.std.proofs.Common.{◌∙◌, ap}
use Rattle.hyp_sets.specs.Sets.{only}
use Rattle.kernel_rules.specs.Connectives.{conj, right_of, is_conj}
use Rattle.kernel_rules.specs.Rules.{seq}
use Rattle.kernel_rules.proofs.Parts.{right_of-apply, is_conj-conj}
use Rattle.hol_kernel.proofs.Growing.{extends_trans, thm_stays}
use Rattle.hol_kernel.proofs.Making.{err_free}
use Rattle.hol_derived.proofs.Cuts.{gives_as}
use Rattle.hol_refutations.proofs.Steps.{gives_is, cut_is}
use Rattle.hol_refutations.proofs.propositional.and_right.Goals as goal

pub supposed_conj-requires-clause-a : goal.supposed_conj-requires-clause-a
supposed_conj-requires-clause-a c = c.requires.a

pub supposed_conj-requires-clause-b : goal.supposed_conj-requires-clause-b
supposed_conj-requires-clause-b c = c.requires.b

pub and_right-requires-clause-ab : goal.and_right-requires-clause-ab
and_right-requires-clause-ab c = c.in_ok-whole.ensures.gives.is_thm

pub and_right-requires-clause-fits : goal.and_right-requires-clause-fits
and_right-requires-clause-fits c = ap (λ q. is_conj q.concl) c.in_ok-whole.ensures.gives.is ∙ is_conj-conj c.args.a.now c.args.b.now

pub cut-requires-clause-a : goal.cut-requires-clause-a
cut-requires-clause-a c = c.in_ok-part.ensures.gives.is_thm

pub cut-requires-clause-c : goal.cut-requires-clause-c
cut-requires-clause-c c = thm_stays _ _ _ (extends_trans _ _ _ c.supposed_conj.ensures.kept c.and_right.ensures.kept) c.requires.th

pub returns-in_err-whole-clause-kept : goal.returns-in_err-whole-clause-kept
returns-in_err-whole-clause-kept c = c.supposed_conj.ensures.kept

pub returns-in_err-whole-clause-facts : goal.returns-in_err-whole-clause-facts
returns-in_err-whole-clause-facts c = c.supposed_conj.ensures.facts

pub returns-in_err-whole-clause-gives : goal.returns-in_err-whole-clause-gives
returns-in_err-whole-clause-gives c = err_free c.from_residual.result _ c.from_residual.ensures.0

pub returns-in_err-part-clause-kept : goal.returns-in_err-part-clause-kept
returns-in_err-part-clause-kept c = extends_trans _ _ _ c.supposed_conj.ensures.kept c.and_right.ensures.kept

pub returns-in_err-part-clause-facts : goal.returns-in_err-part-clause-facts
returns-in_err-part-clause-facts c = c.and_right.ensures.facts ∙ c.supposed_conj.ensures.facts

pub returns-in_err-part-clause-gives : goal.returns-in_err-part-clause-gives
returns-in_err-part-clause-gives c = err_free c.from_residual-in_err-part.result _ c.from_residual-in_err-part.ensures.0

pub returns-clause-kept : goal.returns-clause-kept
returns-clause-kept c = extends_trans _ _ _ (extends_trans _ _ _ c.supposed_conj.ensures.kept c.and_right.ensures.kept) c.cut.ensures.kept

pub returns-clause-facts : goal.returns-clause-facts
returns-clause-facts c = c.cut.ensures.facts ∙ (c.and_right.ensures.facts ∙ c.supposed_conj.ensures.facts)

pub returns-clause-gives : goal.returns-clause-gives
returns-clause-gives c = gives_as c.cut.result c.cut.new.log _ _ (cut_is c.args.log.now c.and_right.new.self c.in_ok-part.part.0 c.args.th.0 (only (conj c.args.a.now c.args.b.now)) c.args.b.now (gives_is _ _ _ _ c.in_ok-part.ensures.gives (ap (λ q. seq q.hyps (right_of q.concl)) c.in_ok-whole.ensures.gives.is ∙ ap (seq (only (conj c.args.a.now c.args.b.now))) (right_of-apply _ c.args.b.now))) (extends_trans _ _ _ c.supposed_conj.ensures.kept c.and_right.ensures.kept) c.requires.th c.requires.refuted) c.cut.ensures.gives
