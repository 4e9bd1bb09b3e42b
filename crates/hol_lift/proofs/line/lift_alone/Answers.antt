use Rattle.std.proofs.Common.{subst}
use Rattle.fo_terms.specs.declared.clause.Clause.{Clause}
use Rattle.fo_infer.specs.Inferences.{AloneGives}
use Rattle.clause_instances.proofs.Answered.{if_ok_map}
use Rattle.hol_lift.proofs.line.lift_alone.Goals as goal

pub lift_factor-requires-clause-symbols : goal.lift_factor-requires-clause-symbols
lift_factor-requires-clause-symbols c = c.requires.symbols

pub lift_factor-requires-clause-tagged : goal.lift_factor-requires-clause-tagged
lift_factor-requires-clause-tagged c = c.requires.tagged

pub lift_factor-requires-clause-rule : goal.lift_factor-requires-clause-rule
lift_factor-requires-clause-rule c = subst (λ z. (d : Clause) × AloneGives c.args.p.now z d) c.in-Factor.is c.requires.rule

pub lift_factor-requires-clause-th : goal.lift_factor-requires-clause-th
lift_factor-requires-clause-th c = c.requires.th

pub lift_factor-requires-clause-false_is : goal.lift_factor-requires-clause-false_is
lift_factor-requires-clause-false_is c = c.requires.false_is

pub returns-in-Factor-clause-kept : goal.returns-in-Factor-clause-kept
returns-in-Factor-clause-kept c = c.lift_factor.ensures.kept

pub returns-in-Factor-clause-facts : goal.returns-in-Factor-clause-facts
returns-in-Factor-clause-facts c = c.lift_factor.ensures.facts

pub returns-in-Factor-clause-gives : goal.returns-in-Factor-clause-gives
returns-in-Factor-clause-gives c = if_ok_map c.lift_factor.result _ _ (λ r f d rule. f d (subst (λ z. AloneGives c.args.p.now z d) c.in-Factor.is rule)) c.lift_factor.ensures.gives

pub lift_reflex-requires-clause-symbols : goal.lift_reflex-requires-clause-symbols
lift_reflex-requires-clause-symbols c = c.requires.symbols

pub lift_reflex-requires-clause-tagged : goal.lift_reflex-requires-clause-tagged
lift_reflex-requires-clause-tagged c = c.requires.tagged

pub lift_reflex-requires-clause-rule : goal.lift_reflex-requires-clause-rule
lift_reflex-requires-clause-rule c = subst (λ z. (d : Clause) × AloneGives c.args.p.now z d) c.in-Reflex.is c.requires.rule

pub lift_reflex-requires-clause-th : goal.lift_reflex-requires-clause-th
lift_reflex-requires-clause-th c = c.requires.th

pub lift_reflex-requires-clause-false_is : goal.lift_reflex-requires-clause-false_is
lift_reflex-requires-clause-false_is c = c.requires.false_is

pub returns-in-Reflex-clause-kept : goal.returns-in-Reflex-clause-kept
returns-in-Reflex-clause-kept c = c.lift_reflex.ensures.kept

pub returns-in-Reflex-clause-facts : goal.returns-in-Reflex-clause-facts
returns-in-Reflex-clause-facts c = c.lift_reflex.ensures.facts

pub returns-in-Reflex-clause-gives : goal.returns-in-Reflex-clause-gives
returns-in-Reflex-clause-gives c = if_ok_map c.lift_reflex.result _ _ (λ r f d rule. f d (subst (λ z. AloneGives c.args.p.now z d) c.in-Reflex.is rule)) c.lift_reflex.ensures.gives

pub unreachable-requires : goal.unreachable-requires
unreachable-requires c = (subst (λ z. (d : Clause) × AloneGives c.args.p.now z d) c.in-Resolve.is c.requires.rule).1

pub unreachable-unreachable : goal.unreachable-unreachable
unreachable-unreachable c = c.unreachable.result

pub unreachable-requires-in-Para : goal.unreachable-requires-in-Para
unreachable-requires-in-Para c = (subst (λ z. (d : Clause) × AloneGives c.args.p.now z d) c.in-Para.is c.requires.rule).1

pub unreachable-unreachable-in-Para : goal.unreachable-unreachable-in-Para
unreachable-unreachable-in-Para c = c.unreachable-in-Para.result
