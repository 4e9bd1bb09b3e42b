use Rattle.std.proofs.Common.{refl}
use Rattle.tagged_terms.specs.Readings.{signs_of}
use Rattle.hol_kernel.proofs.Growing.{extends_refl}
use Rattle.hol_kernel.proofs.Making.{err_free}
use Rattle.clause_instances.specs.Theorems.{clause_of}
use Rattle.clause_instances.proofs.Answered.{if_ok_map}
use Rattle.hol_lift.proofs.Members.{got_within}
use Rattle.hol_lift.proofs.Singles.{factor_instance, factor_last, factor_tagged, factors_unify, factors_kinds}
use Rattle.hol_lift.proofs.single.lift_factor.Goals as goal

pub at-requires : goal.at-requires
at-requires c = got_within c.args.p.now.literals c.args.i _ c.requires.rule.1.first_is

pub at-requires-2 : goal.at-requires-2
at-requires-2 c = got_within c.args.p.now.literals c.args.j _ c.requires.rule.1.second_is

pub atoms_unifier-requires : goal.atoms_unifier-requires
atoms_unifier-requires c = factors_unify c.args.p.now c.args.i c.args.j c.requires.rule.0 c.requires.rule.1 c.at.result.now c.at-2.result.now c.at.ensures c.at-2.ensures

pub returns-in_err-unifier-clause-kept : goal.returns-in_err-unifier-clause-kept
returns-in_err-unifier-clause-kept c = extends_refl c.args.log.now

pub returns-in_err-unifier-clause-facts : goal.returns-in_err-unifier-clause-facts
returns-in_err-unifier-clause-facts c = refl

pub returns-in_err-unifier-clause-gives : goal.returns-in_err-unifier-clause-gives
returns-in_err-unifier-clause-gives c = err_free c.from_residual.result _ c.from_residual.ensures.0

pub lift_rest-requires-clause-symbols : goal.lift_rest-requires-clause-symbols
lift_rest-requires-clause-symbols c = c.requires.symbols

pub lift_rest-requires-clause-within : goal.lift_rest-requires-clause-within
lift_rest-requires-clause-within c = got_within c.args.p.now.literals c.args.j _ c.requires.rule.1.second_is

pub lift_rest-requires-clause-fits : goal.lift_rest-requires-clause-fits
lift_rest-requires-clause-fits c = factor_instance c.args.log.now.env.sig (signs_of c.args.symbols.now) c.requires.symbols c.args.p.now c.requires.tagged c.args.i c.args.j c.requires.rule.0 c.in_ok-unifier.unifier.binds c.requires.rule.1 (c.in_ok-unifier.ensures c.requires.rule.1.equations (factors_kinds c.args.p.now c.args.i c.args.j c.requires.rule.0 c.requires.rule.1 c.at.result.now c.at-2.result.now c.at.ensures c.at-2.ensures))

pub lift_rest-requires-clause-th : goal.lift_rest-requires-clause-th
lift_rest-requires-clause-th c = c.requires.th

pub lift_rest-requires-clause-false_is : goal.lift_rest-requires-clause-false_is
lift_rest-requires-clause-false_is c = c.requires.false_is

pub returns-clause-kept : goal.returns-clause-kept
returns-clause-kept c = c.lift_rest.ensures.kept

pub returns-clause-facts : goal.returns-clause-facts
returns-clause-facts c = c.lift_rest.ensures.facts

pub returns-clause-gives : goal.returns-clause-gives
returns-clause-gives c = if_ok_map c.lift_rest.result _ _ (λ r f d rule. (
  f (clause_of (signs_of c.args.symbols.now) d.literals) (factor_last c.args.log.now.env.sig (signs_of c.args.symbols.now) c.requires.symbols c.args.p.now c.requires.tagged c.args.i c.args.j d c.in_ok-unifier.unifier.binds rule
      (c.in_ok-unifier.ensures rule.equations (factors_kinds c.args.p.now c.args.i c.args.j d rule c.at.result.now c.at-2.result.now c.at.ensures c.at-2.ensures))),
  factor_tagged c.args.log.now.env.sig (signs_of c.args.symbols.now) c.requires.symbols c.args.p.now c.requires.tagged c.args.i c.args.j d c.in_ok-unifier.unifier.binds rule
      (c.in_ok-unifier.ensures rule.equations (factors_kinds c.args.p.now c.args.i c.args.j d rule c.at.result.now c.at-2.result.now c.at.ensures c.at-2.ensures)),
)) c.lift_rest.ensures.gives
