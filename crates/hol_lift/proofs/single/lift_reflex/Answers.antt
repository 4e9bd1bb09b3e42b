use Rattle.std.proofs.Common.{refl}
use Rattle.tagged_terms.specs.Readings.{signs_of}
use Rattle.hol_kernel.proofs.Growing.{extends_refl}
use Rattle.hol_kernel.proofs.Making.{err_free}
use Rattle.clause_instances.specs.Theorems.{clause_of}
use Rattle.clause_instances.proofs.Answered.{if_ok_map}
use Rattle.hol_lift.proofs.Members.{got_within}
use Rattle.hol_lift.proofs.Singles.{reflex_instance, reflex_last, reflex_tagged, reflects_unify, reflects_sides}
use Rattle.hol_lift.proofs.single.lift_reflex.Goals as goal

pub at-requires : goal.at-requires
at-requires c = got_within c.args.p.now.literals c.args.i _ c.requires.rule.1.literal_is

pub equation_unifier-requires : goal.equation_unifier-requires
equation_unifier-requires c = reflects_unify c.args.p.now c.args.i c.requires.rule.0 c.requires.rule.1 c.at.result.now c.at.ensures

pub returns-in_err-unifier-clause-kept : goal.returns-in_err-unifier-clause-kept
returns-in_err-unifier-clause-kept c = extends_refl c.args.log.now

pub returns-in_err-unifier-clause-facts : goal.returns-in_err-unifier-clause-facts
returns-in_err-unifier-clause-facts c = refl

pub returns-in_err-unifier-clause-gives : goal.returns-in_err-unifier-clause-gives
returns-in_err-unifier-clause-gives c = err_free c.from_residual.result _ c.from_residual.ensures.0

pub lift_rest-requires-clause-symbols : goal.lift_rest-requires-clause-symbols
lift_rest-requires-clause-symbols c = c.requires.symbols

pub lift_rest-requires-clause-within : goal.lift_rest-requires-clause-within
lift_rest-requires-clause-within c = got_within c.args.p.now.literals c.args.i _ c.requires.rule.1.literal_is

pub lift_rest-requires-clause-fits : goal.lift_rest-requires-clause-fits
lift_rest-requires-clause-fits c = reflex_instance c.args.log.now.env.sig (signs_of c.args.symbols.now) c.requires.symbols c.args.p.now c.requires.tagged c.args.i c.requires.rule.0 c.in_ok-unifier.unifier.binds c.requires.rule.1 (c.in_ok-unifier.ensures c.requires.rule.1.s c.requires.rule.1.t (reflects_sides c.args.p.now c.args.i c.requires.rule.0 c.requires.rule.1 c.at.result.now c.at.ensures))

pub lift_rest-requires-clause-th : goal.lift_rest-requires-clause-th
lift_rest-requires-clause-th c = c.requires.th

pub lift_rest-requires-clause-false_is : goal.lift_rest-requires-clause-false_is
lift_rest-requires-clause-false_is c = c.requires.false_is

pub returns-clause-kept : goal.returns-clause-kept
returns-clause-kept c = c.lift_rest.ensures.kept

pub returns-clause-facts : goal.returns-clause-facts
returns-clause-facts c = c.lift_rest.ensures.facts

pub returns-clause-gives : goal.returns-clause-gives
returns-clause-gives c = if_ok_map c.lift_rest.result _ _ (λ r f d rule. (
  f (clause_of (signs_of c.args.symbols.now) d.literals) (reflex_last c.args.log.now.env.sig (signs_of c.args.symbols.now) c.requires.symbols c.args.p.now c.requires.tagged c.args.i d c.in_ok-unifier.unifier.binds rule
      (c.in_ok-unifier.ensures rule.s rule.t (reflects_sides c.args.p.now c.args.i d rule c.at.result.now c.at.ensures))),
  reflex_tagged c.args.log.now.env.sig (signs_of c.args.symbols.now) c.requires.symbols c.args.p.now c.requires.tagged c.args.i d c.in_ok-unifier.unifier.binds rule
      (c.in_ok-unifier.ensures rule.s rule.t (reflects_sides c.args.p.now c.args.i d rule c.at.result.now c.at.ensures)),
)) c.lift_rest.ensures.gives
