use Rattle.kernel_rules.specs.Connectives.{neg, chosen, lambda}
use Rattle.hol_kernel.proofs.Growing.{extends_trans, thm_stays}
use Rattle.hol_derived.proofs.Splits.{formula_stays}
use Rattle.hol_refutations.proofs.Steps.{stays_false}
use Rattle.hol_refutations.proofs.Named.{named_by}
use Rattle.logic_tests.proofs.refutations.failing_is_told.Goals as goal

pub own_name_failing-requires : goal.own_name_failing-requires
own_name_failing-requires c = c.requires.each

pub not_all_named-requires-clause-whole : goal.not_all_named-requires-clause-whole
not_all_named-requires-clause-whole c = formula_stays _ _ _ c.own_name_failing.ensures.kept c.requires.each

pub not_all_named-requires-clause-name : goal.not_all_named-requires-clause-name
not_all_named-requires-clause-name c = c.in_ok-name.ensures.gives.is_thm

pub not_all_named-requires-clause-names : goal.not_all_named-requires-clause-names
not_all_named-requires-clause-names c = named_by c.own_name_failing.new.log c.in_ok-name.name.0 c.args.ty.now (chosen c.args.ty.now (lambda c.args.ty.now (neg c.args.body.now))) (chosen c.args.ty.now (lambda c.args.ty.now (neg c.args.body.now))) c.in_ok-name.ensures.gives.is

pub not_all_named-requires-clause-th : goal.not_all_named-requires-clause-th
not_all_named-requires-clause-th c = thm_stays _ _ _ c.own_name_failing.ensures.kept c.requires.th

pub not_all_named-requires-clause-refuted : goal.not_all_named-requires-clause-refuted
not_all_named-requires-clause-refuted c = stays_false _ _ c.args.th.0 c.own_name_failing.ensures.kept c.requires.th c.requires.th_false

pub returns-in_err-name : goal.returns-in_err-name
returns-in_err-name c = record { kept = c.own_name_failing.ensures.kept }

pub returns-in_err-failed : goal.returns-in_err-failed
returns-in_err-failed c = record { kept = extends_trans _ _ _ c.own_name_failing.ensures.kept c.not_all_named.ensures.kept }

pub returns : goal.returns
returns c = record { kept = extends_trans _ _ _ c.own_name_failing.ensures.kept c.not_all_named.ensures.kept }
