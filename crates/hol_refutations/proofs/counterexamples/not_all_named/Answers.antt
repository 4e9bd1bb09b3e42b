use Rattle.std.proofs.Common.{◌∙◌, ap}
use Rattle.hyp_sets.specs.Sets.{only}
use Rattle.kernel_rules.specs.Connectives.{neg, all, chosen, lambda, right_of}
use Rattle.kernel_rules.specs.Rules.{seq}
use Rattle.hol_terms.specs.Substitution.{instantiated}
use Rattle.hol_kernel.specs.Logs.{thm}
use Rattle.hol_kernel.proofs.Growing.{extends_trans, thm_stays}
use Rattle.hol_kernel.proofs.Making.{err_free}
use Rattle.hol_derived.proofs.Cuts.{gives_as}
use Rattle.hol_derived.proofs.Splits.{formula_stays}
use Rattle.hol_refutations.proofs.Steps.{gives_is, cut_is}
use Rattle.hol_refutations.proofs.Named.{names_stay}
use Rattle.hol_refutations.proofs.counterexamples.not_all_named.Goals as goal

pub picked-requires : goal.picked-requires
picked-requires c = c.requires.whole

pub at_named-requires-clause-whole : goal.at_named-requires-clause-whole
at_named-requires-clause-whole c = formula_stays _ _ _ c.picked.ensures.kept c.requires.whole

pub at_named-requires-clause-name : goal.at_named-requires-clause-name
at_named-requires-clause-name c = thm_stays _ _ _ c.picked.ensures.kept c.requires.name

pub at_named-requires-clause-names : goal.at_named-requires-clause-names
at_named-requires-clause-names c =
    names_stay c.args.log.now c.picked.new.log c.args.name.0 c.args.ty.now (chosen c.args.ty.now (lambda c.args.ty.now (neg c.args.body.now))) c.picked.ensures.kept c.requires.name c.requires.names

pub at_named-requires-clause-th : goal.at_named-requires-clause-th
at_named-requires-clause-th c = c.in_ok-part.ensures.gives.is_thm

pub at_named-requires-clause-is : goal.at_named-requires-clause-is
at_named-requires-clause-is c = ap (λ q. q.concl) c.in_ok-part.ensures.gives.is

pub cut-requires-clause-a : goal.cut-requires-clause-a
cut-requires-clause-a c = c.in_ok-there.ensures.gives.is_thm

pub cut-requires-clause-c : goal.cut-requires-clause-c
cut-requires-clause-c c = thm_stays _ _ _ (extends_trans _ _ _ c.picked.ensures.kept c.at_named.ensures.kept) c.requires.th

pub returns-in_err-part-clause-kept : goal.returns-in_err-part-clause-kept
returns-in_err-part-clause-kept c = c.picked.ensures.kept

pub returns-in_err-part-clause-facts : goal.returns-in_err-part-clause-facts
returns-in_err-part-clause-facts c = c.picked.ensures.facts

pub returns-in_err-part-clause-gives : goal.returns-in_err-part-clause-gives
returns-in_err-part-clause-gives c = err_free c.from_residual.result _ c.from_residual.ensures.0

pub returns-in_err-there-clause-kept : goal.returns-in_err-there-clause-kept
returns-in_err-there-clause-kept c = extends_trans _ _ _ c.picked.ensures.kept c.at_named.ensures.kept

pub returns-in_err-there-clause-facts : goal.returns-in_err-there-clause-facts
returns-in_err-there-clause-facts c = c.at_named.ensures.facts ∙ c.picked.ensures.facts

pub returns-in_err-there-clause-gives : goal.returns-in_err-there-clause-gives
returns-in_err-there-clause-gives c = err_free c.from_residual-in_err-there.result _ c.from_residual-in_err-there.ensures.0

pub returns-clause-kept : goal.returns-clause-kept
returns-clause-kept c = extends_trans _ _ _ (extends_trans _ _ _ c.picked.ensures.kept c.at_named.ensures.kept) c.cut.ensures.kept

pub returns-clause-facts : goal.returns-clause-facts
returns-clause-facts c = c.cut.ensures.facts ∙ (c.at_named.ensures.facts ∙ c.picked.ensures.facts)

pub returns-clause-gives : goal.returns-clause-gives
returns-clause-gives c =
    let whole = only (neg (all c.args.ty.now (lambda c.args.ty.now c.args.body.now))) in
    let d = right_of (thm c.args.log.now c.args.name.0).concl in
    gives_as c.cut.result c.cut.new.log _ _
    (cut_is c.args.log.now c.at_named.new.log c.in_ok-there.there.0 c.args.th.0 whole (neg (instantiated c.args.body.now d)) (gives_is _ _ _ _ c.in_ok-there.ensures.gives
    (λ i. seq ((c.in_ok-part.ensures.gives.is i).hyps) (neg (instantiated c.args.body.now (right_of ((c.picked.ensures.kept.earlier c.args.name.0 c.requires.name i).concl))))))
    (extends_trans _ _ _ c.picked.ensures.kept c.at_named.ensures.kept) c.requires.th c.requires.refuted) c.cut.ensures.gives
