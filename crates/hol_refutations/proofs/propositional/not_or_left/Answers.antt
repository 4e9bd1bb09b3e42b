use Rattle.std.proofs.Common.{◌∙◌, ap}
use Rattle.kernel_rules.specs.Connectives.{disj}
use Rattle.kernel_rules.specs.Rules.{seq}
use Rattle.hol_kernel.proofs.Growing.{extends_trans}
use Rattle.hol_kernel.proofs.Making.{err_free}
use Rattle.hol_derived.proofs.Cuts.{gives_as}
use Rattle.hol_derived.proofs.Splits.{formula_stays}
use Rattle.hol_refutations.proofs.Steps.{denied_seq}
use Rattle.hol_refutations.proofs.propositional.not_or_left.Goals as goal

pub classical-requires-clause-t : goal.classical-requires-clause-t
classical-requires-clause-t c = c.requires.a

pub classical-requires-clause-a : goal.classical-requires-clause-a
classical-requires-clause-a c = c.requires.th

pub classical-requires-clause-fits : goal.classical-requires-clause-fits
classical-requires-clause-fits c = c.requires.refuted

pub or_left-requires-clause-t : goal.or_left-requires-clause-t
or_left-requires-clause-t c = formula_stays c.args.log.now c.classical.new.self c.args.b.now c.classical.ensures.kept c.requires.b

pub or_left-requires-clause-a : goal.or_left-requires-clause-a
or_left-requires-clause-a c = c.in_ok-part.ensures.gives.is_thm

pub denied-requires : goal.denied-requires
denied-requires c = c.in_ok-whole.ensures.gives.is_thm

pub returns-in_err-part-clause-kept : goal.returns-in_err-part-clause-kept
returns-in_err-part-clause-kept c = c.classical.ensures.kept

pub returns-in_err-part-clause-facts : goal.returns-in_err-part-clause-facts
returns-in_err-part-clause-facts c = c.classical.ensures.facts

pub returns-in_err-part-clause-gives : goal.returns-in_err-part-clause-gives
returns-in_err-part-clause-gives c = err_free c.from_residual.result _ c.from_residual.ensures.0

pub returns-in_err-whole-clause-kept : goal.returns-in_err-whole-clause-kept
returns-in_err-whole-clause-kept c = extends_trans _ _ _ c.classical.ensures.kept c.or_left.ensures.kept

pub returns-in_err-whole-clause-facts : goal.returns-in_err-whole-clause-facts
returns-in_err-whole-clause-facts c = c.or_left.ensures.facts ∙ c.classical.ensures.facts

pub returns-in_err-whole-clause-gives : goal.returns-in_err-whole-clause-gives
returns-in_err-whole-clause-gives c = err_free c.from_residual-in_err-whole.result _ c.from_residual-in_err-whole.ensures.0

pub returns-clause-kept : goal.returns-clause-kept
returns-clause-kept c = extends_trans _ _ _ (extends_trans _ _ _ c.classical.ensures.kept c.or_left.ensures.kept) c.denied.ensures.kept

pub returns-clause-facts : goal.returns-clause-facts
returns-clause-facts c = c.denied.ensures.facts ∙ (c.or_left.ensures.facts ∙ c.classical.ensures.facts)

pub returns-clause-gives : goal.returns-clause-gives
returns-clause-gives c = gives_as c.denied.result c.denied.new.log _ _ (ap denied_seq (c.in_ok-whole.ensures.gives.is ∙ ap (λ q. seq q.hyps (disj q.concl c.args.b.now)) c.in_ok-part.ensures.gives.is)) c.denied.ensures.gives
