use Rattle.std.proofs.Common.{sym, subst}
use Rattle.fo_terms.specs.declared.clause.Clause.{Clause}
use Rattle.fo_infer.specs.Inferences.{PairGives, Paramodulates, tagged_position}
use Rattle.clause_instances.proofs.Answered.{if_ok_map}
use Rattle.hol_lift.proofs.line.lift_pair.Goals as goal

pub lift_resolve-requires-clause-symbols : goal.lift_resolve-requires-clause-symbols
lift_resolve-requires-clause-symbols c = c.requires.symbols

pub lift_resolve-requires-clause-left_tagged : goal.lift_resolve-requires-clause-left_tagged
lift_resolve-requires-clause-left_tagged c = c.requires.left_tagged

pub lift_resolve-requires-clause-right_tagged : goal.lift_resolve-requires-clause-right_tagged
lift_resolve-requires-clause-right_tagged c = c.requires.right_tagged

pub lift_resolve-requires-clause-rule : goal.lift_resolve-requires-clause-rule
lift_resolve-requires-clause-rule c = subst (λ z. (d : Clause) × PairGives tagged_position c.args.p.now c.args.q.now z d) c.in-Resolve.is c.requires.rule

pub lift_resolve-requires-clause-left : goal.lift_resolve-requires-clause-left
lift_resolve-requires-clause-left c = c.requires.left

pub lift_resolve-requires-clause-right : goal.lift_resolve-requires-clause-right
lift_resolve-requires-clause-right c = c.requires.right

pub lift_resolve-requires-clause-left_false : goal.lift_resolve-requires-clause-left_false
lift_resolve-requires-clause-left_false c = c.requires.left_false

pub lift_resolve-requires-clause-right_false : goal.lift_resolve-requires-clause-right_false
lift_resolve-requires-clause-right_false c = c.requires.right_false

pub returns-in-Resolve-clause-kept : goal.returns-in-Resolve-clause-kept
returns-in-Resolve-clause-kept c = c.lift_resolve.ensures.kept

pub returns-in-Resolve-clause-facts : goal.returns-in-Resolve-clause-facts
returns-in-Resolve-clause-facts c = c.lift_resolve.ensures.facts

pub returns-in-Resolve-clause-gives : goal.returns-in-Resolve-clause-gives
returns-in-Resolve-clause-gives c = if_ok_map c.lift_resolve.result _ _ (λ r f d rule. f d (subst (λ z. PairGives tagged_position c.args.p.now c.args.q.now z d) c.in-Resolve.is rule)) c.lift_resolve.ensures.gives

pub lift_paramodulate-requires-clause-symbols : goal.lift_paramodulate-requires-clause-symbols
lift_paramodulate-requires-clause-symbols c = c.requires.symbols

pub lift_paramodulate-requires-clause-left_tagged : goal.lift_paramodulate-requires-clause-left_tagged
lift_paramodulate-requires-clause-left_tagged c = c.requires.left_tagged

pub lift_paramodulate-requires-clause-right_tagged : goal.lift_paramodulate-requires-clause-right_tagged
lift_paramodulate-requires-clause-right_tagged c = c.requires.right_tagged

pub lift_paramodulate-requires-clause-rule : goal.lift_paramodulate-requires-clause-rule
lift_paramodulate-requires-clause-rule c = subst (λ l. (d : Clause) × Paramodulates tagged_position c.args.p.now c.args.q.now c.in-Para.i c.in-Para.swapped c.in-Para.j l d) (sym c.as_slice.ensures) (subst (λ z. (d : Clause) × PairGives tagged_position c.args.p.now c.args.q.now z d) c.in-Para.is c.requires.rule)

pub lift_paramodulate-requires-clause-left : goal.lift_paramodulate-requires-clause-left
lift_paramodulate-requires-clause-left c = c.requires.left

pub lift_paramodulate-requires-clause-right : goal.lift_paramodulate-requires-clause-right
lift_paramodulate-requires-clause-right c = c.requires.right

pub lift_paramodulate-requires-clause-left_false : goal.lift_paramodulate-requires-clause-left_false
lift_paramodulate-requires-clause-left_false c = c.requires.left_false

pub lift_paramodulate-requires-clause-right_false : goal.lift_paramodulate-requires-clause-right_false
lift_paramodulate-requires-clause-right_false c = c.requires.right_false

pub returns-in-Para-clause-kept : goal.returns-in-Para-clause-kept
returns-in-Para-clause-kept c = c.lift_paramodulate.ensures.kept

pub returns-in-Para-clause-facts : goal.returns-in-Para-clause-facts
returns-in-Para-clause-facts c = c.lift_paramodulate.ensures.facts

pub returns-in-Para-clause-gives : goal.returns-in-Para-clause-gives
returns-in-Para-clause-gives c = if_ok_map c.lift_paramodulate.result _ _ (λ r f d rule. f d (subst (λ l. Paramodulates tagged_position c.args.p.now c.args.q.now c.in-Para.i c.in-Para.swapped c.in-Para.j l d) (sym c.as_slice.ensures) (subst (λ z. PairGives tagged_position c.args.p.now c.args.q.now z d) c.in-Para.is rule))) c.lift_paramodulate.ensures.gives

pub unreachable-requires : goal.unreachable-requires
unreachable-requires c = (subst (λ z. (d : Clause) × PairGives tagged_position c.args.p.now c.args.q.now z d) c.in-Factor.is c.requires.rule).1

pub unreachable-unreachable : goal.unreachable-unreachable
unreachable-unreachable c = c.unreachable.result

pub unreachable-requires-in-Reflex : goal.unreachable-requires-in-Reflex
unreachable-requires-in-Reflex c = (subst (λ z. (d : Clause) × PairGives tagged_position c.args.p.now c.args.q.now z d) c.in-Reflex.is c.requires.rule).1

pub unreachable-unreachable-in-Reflex : goal.unreachable-unreachable-in-Reflex
unreachable-unreachable-in-Reflex c = c.unreachable-in-Reflex.result
