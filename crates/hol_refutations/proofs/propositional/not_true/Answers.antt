use Rattle.std.proofs.Common.{◌∙◌, ap}
use Rattle.std.specs.FinSet as set
use Rattle.hyp_sets.specs.Sets.{only}
use Rattle.kernel_rules.specs.Connectives.{falsum, verum, neg}
use Rattle.kernel_rules.specs.Rules.{seq}
use Rattle.hol_kernel.proofs.Growing.{extends_trans}
use Rattle.hol_kernel.proofs.Making.{err_free}
use Rattle.hol_derived.proofs.Cuts.{gives_as}
use Rattle.hol_derived.proofs.Unions.{union_turned, none_joined}
use Rattle.hol_refutations.proofs.Steps.{denied_seq}
use Rattle.hol_refutations.proofs.propositional.not_true.Goals as goal

pub denied-requires : goal.denied-requires
denied-requires c = c.in_ok-held.ensures.gives.is_thm

pub returns-in_err-held-clause-kept : goal.returns-in_err-held-clause-kept
returns-in_err-held-clause-kept c = c.true_intro.ensures.kept

pub returns-in_err-held-clause-facts : goal.returns-in_err-held-clause-facts
returns-in_err-held-clause-facts c = c.true_intro.ensures.facts

pub returns-in_err-held-clause-gives : goal.returns-in_err-held-clause-gives
returns-in_err-held-clause-gives c = err_free c.from_residual.result _ c.from_residual.ensures.0

pub returns-clause-kept : goal.returns-clause-kept
returns-clause-kept c = extends_trans _ _ _ c.true_intro.ensures.kept c.denied.ensures.kept

pub returns-clause-facts : goal.returns-clause-facts
returns-clause-facts c = c.denied.ensures.facts ∙ c.true_intro.ensures.facts

pub returns-clause-gives : goal.returns-clause-gives
returns-clause-gives c = gives_as c.denied.result c.denied.new.log _ _ (ap denied_seq c.in_ok-held.ensures.gives.is ∙ ap (λ s. seq s falsum) (union_turned (only (neg verum)) set.empty ∙ none_joined (only (neg verum)))) c.denied.ensures.gives
