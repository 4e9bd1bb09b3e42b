use Rattle.std.proofs.Common.{◌∙◌, ap}
use Rattle.kernel_rules.specs.Connectives.{some}
use Rattle.kernel_rules.specs.Rules.{seq}
use Rattle.hol_kernel.proofs.Growing.{extends_trans}
use Rattle.hol_kernel.proofs.Making.{err_free}
use Rattle.hol_derived.proofs.Cuts.{gives_as}
use Rattle.hol_kernel.specs.Conditions.{own_ty}
use Rattle.hol_refutations.proofs.Steps.{denied_seq, own_given_stays, property_stays}
use Rattle.hol_refutations.proofs.quantifiers.not_some_at.Goals as goal

pub classical-requires-clause-t : goal.classical-requires-clause-t
classical-requires-clause-t c = c.requires.part

pub classical-requires-clause-a : goal.classical-requires-clause-a
classical-requires-clause-a c = c.requires.th

pub classical-requires-clause-fits : goal.classical-requires-clause-fits
classical-requires-clause-fits c = c.requires.refuted

pub ex_intro-requires-clause-t : goal.ex_intro-requires-clause-t
ex_intro-requires-clause-t c = own_given_stays c.args.log.now c.classical.new.self c.args.u.now c.classical.ensures.kept c.requires.value

pub ex_intro-requires-clause-f : goal.ex_intro-requires-clause-f
ex_intro-requires-clause-f c = property_stays c.args.log.now c.classical.new.self c.args.f.now c.args.u.now c.classical.ensures.kept c.requires.property

pub ex_intro-requires-clause-a : goal.ex_intro-requires-clause-a
ex_intro-requires-clause-a c = c.in_ok-held.ensures.gives.is_thm

pub ex_intro-requires-clause-fits : goal.ex_intro-requires-clause-fits
ex_intro-requires-clause-fits c = ap (λ q. q.concl) c.in_ok-held.ensures.gives.is ∙ c.requires.is

pub denied-requires : goal.denied-requires
denied-requires c = c.in_ok-whole.ensures.gives.is_thm

pub returns-in_err-held-clause-kept : goal.returns-in_err-held-clause-kept
returns-in_err-held-clause-kept c = c.classical.ensures.kept

pub returns-in_err-held-clause-facts : goal.returns-in_err-held-clause-facts
returns-in_err-held-clause-facts c = c.classical.ensures.facts

pub returns-in_err-held-clause-gives : goal.returns-in_err-held-clause-gives
returns-in_err-held-clause-gives c = err_free c.from_residual.result _ c.from_residual.ensures.0

pub returns-in_err-whole-clause-kept : goal.returns-in_err-whole-clause-kept
returns-in_err-whole-clause-kept c = extends_trans _ _ _ c.classical.ensures.kept c.ex_intro.ensures.kept

pub returns-in_err-whole-clause-facts : goal.returns-in_err-whole-clause-facts
returns-in_err-whole-clause-facts c = c.ex_intro.ensures.facts ∙ c.classical.ensures.facts

pub returns-in_err-whole-clause-gives : goal.returns-in_err-whole-clause-gives
returns-in_err-whole-clause-gives c = err_free c.from_residual-in_err-whole.result _ c.from_residual-in_err-whole.ensures.0

pub returns-clause-kept : goal.returns-clause-kept
returns-clause-kept c = extends_trans _ _ _ (extends_trans _ _ _ c.classical.ensures.kept c.ex_intro.ensures.kept) c.denied.ensures.kept

pub returns-clause-facts : goal.returns-clause-facts
returns-clause-facts c = c.denied.ensures.facts ∙ (c.ex_intro.ensures.facts ∙ c.classical.ensures.facts)

pub returns-clause-gives : goal.returns-clause-gives
returns-clause-gives c = gives_as c.denied.result c.denied.new.log _ _ (ap denied_seq (c.in_ok-whole.ensures.gives.is ∙ (λ i. seq ((c.in_ok-held.ensures.gives.is i).hyps) (some (own_ty (c.classical.ensures.kept.env i).sig c.args.u.now) c.args.f.now)))) c.denied.ensures.gives
