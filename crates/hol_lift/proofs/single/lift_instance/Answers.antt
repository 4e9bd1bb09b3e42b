use Rattle.std.proofs.Common.{sym, subst, ◌∙◌}
use Rattle.tagged_terms.specs.Readings.{signs_of}
use Rattle.fo_terms.specs.Substitution.{put_literals}
use Rattle.hol_kernel.proofs.Growing.{extends_trans}
use Rattle.hol_kernel.proofs.Making.{err_free}
use Rattle.clause_instances.specs.Images.{image}
use Rattle.clause_instances.specs.Theorems.{clause_of}
use Rattle.hol_lift.specs.inner.Typed.{AllFormulas}
use Rattle.hol_lift.proofs.Drops.{formulas_stay}
use Rattle.hol_lift.proofs.Singles.{instance_formulas, instances_land}
use Rattle.hol_lift.proofs.single.lift_instance.Goals as goal

pub instance-requires-clause-symbols : goal.instance-requires-clause-symbols
instance-requires-clause-symbols c = c.requires.symbols.serve

pub instance-requires-clause-fits : goal.instance-requires-clause-fits
instance-requires-clause-fits c = c.requires.fits

pub instance-requires-clause-th : goal.instance-requires-clause-th
instance-requires-clause-th c = c.requires.th

pub instance-requires-clause-false_is : goal.instance-requires-clause-false_is
instance-requires-clause-false_is c = c.requires.false_is

pub returns-in_err-instanced-clause-kept : goal.returns-in_err-instanced-clause-kept
returns-in_err-instanced-clause-kept c = c.instance.ensures.kept

pub returns-in_err-instanced-clause-facts : goal.returns-in_err-instanced-clause-facts
returns-in_err-instanced-clause-facts c = c.instance.ensures.facts

pub returns-in_err-instanced-clause-gives : goal.returns-in_err-instanced-clause-gives
returns-in_err-instanced-clause-gives c = err_free c.from_residual.result _ c.from_residual.ensures.0

pub returns-in_err-literals-clause-kept : goal.returns-in_err-literals-clause-kept
returns-in_err-literals-clause-kept c = c.instance.ensures.kept

pub returns-in_err-literals-clause-facts : goal.returns-in_err-literals-clause-facts
returns-in_err-literals-clause-facts c = c.instance.ensures.facts

pub returns-in_err-literals-clause-gives : goal.returns-in_err-literals-clause-gives
returns-in_err-literals-clause-gives c = err_free c.from_residual-in_err-literals.result _ c.from_residual-in_err-literals.ensures.0

pub drop_refuted-requires-clause-atoms : goal.drop_refuted-requires-clause-atoms
drop_refuted-requires-clause-atoms c = formulas_stay c.args.log.now c.instance.new.log c.as_slice.result.now c.instance.ensures.kept
    (subst (AllFormulas c.args.log.now.env.sig) (sym (c.as_slice.ensures ∙ c.in_ok-literals.ensures)) (instance_formulas c.args.log.now.env.sig (signs_of c.args.symbols.now) (image c.args.u.now.by c.args.u.now.binds.now c.args.u.now.seen.now) c.args.p.now c.requires.symbols c.requires.fits))

pub drop_refuted-requires-clause-th : goal.drop_refuted-requires-clause-th
drop_refuted-requires-clause-th c = c.in_ok-instanced.ensures.gives.is_thm

pub returns-clause-kept : goal.returns-clause-kept
returns-clause-kept c = extends_trans _ _ _ c.instance.ensures.kept c.drop_refuted.ensures.kept

pub returns-clause-facts : goal.returns-clause-facts
returns-clause-facts c = c.drop_refuted.ensures.facts ∙ c.instance.ensures.facts

pub returns-clause-gives : goal.returns-clause-gives
returns-clause-gives c = instances_land c.args.log.now c.instance.new.log c.drop_refuted.new.log c.args.th.0 c.in_ok-instanced.instanced.0 (clause_of (signs_of c.args.symbols.now) c.args.p.now) (clause_of (signs_of c.args.symbols.now) (put_literals (image c.args.u.now.by c.args.u.now.binds.now c.args.u.now.seen.now) c.args.p.now)) c.as_slice.result.now c.drop_refuted.result
    (c.as_slice.ensures ∙ c.in_ok-literals.ensures) c.in_ok-instanced.ensures.gives c.drop_refuted.ensures.gives
