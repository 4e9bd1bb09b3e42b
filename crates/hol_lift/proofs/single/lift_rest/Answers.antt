use Rattle.std.proofs.Common.{refl, sym, subst, ◌∙◌, ◌<◌, length}
use Rattle.tagged_terms.specs.Readings.{signs_of}
use Rattle.hol_kernel.proofs.Growing.{extends_refl}
use Rattle.hol_kernel.proofs.Making.{err_free}
use Rattle.tagged_lines.specs.Lifted.{factored}
use Rattle.hol_lift.proofs.Singles.{image_finished}
use Rattle.hol_lift.proofs.LandedAs.{as_image, image_lands, factored_as}
use Rattle.hol_lift.proofs.single.lift_rest.Goals as goal

pub rest_names-requires : goal.rest_names-requires
rest_names-requires c = subst (λ ls. c.args.j < length ls) (sym c.as_slice-2.ensures) c.requires.within

pub returns-in_err-seen-clause-kept : goal.returns-in_err-seen-clause-kept
returns-in_err-seen-clause-kept c = extends_refl c.args.log.now

pub returns-in_err-seen-clause-facts : goal.returns-in_err-seen-clause-facts
returns-in_err-seen-clause-facts c = refl

pub returns-in_err-seen-clause-gives : goal.returns-in_err-seen-clause-gives
returns-in_err-seen-clause-gives c = err_free c.from_residual.result _ c.from_residual.ensures.0

pub lift_instance-requires-clause-symbols : goal.lift_instance-requires-clause-symbols
lift_instance-requires-clause-symbols c = c.requires.symbols

pub lift_instance-requires-clause-fits : goal.lift_instance-requires-clause-fits
lift_instance-requires-clause-fits c = as_image c.args.log.now.env.sig (signs_of c.args.symbols.now) _ _ _ _ _ _ c.as_slice-3.ensures (c.as_slice-4.ensures ∙ c.in_ok-seen.ensures ∙ factored_as c.args.p.now c.args.unifier.now.binds c.args.j _ _ c.as_slice.ensures c.as_slice-2.ensures) c.as_slice-5.ensures
    (image_finished c.args.unifier.now.binds (factored c.args.p.now c.args.unifier.now.binds c.args.j)) c.requires.fits

pub lift_instance-requires-clause-th : goal.lift_instance-requires-clause-th
lift_instance-requires-clause-th c = c.requires.th

pub lift_instance-requires-clause-false_is : goal.lift_instance-requires-clause-false_is
lift_instance-requires-clause-false_is c = c.requires.false_is

pub returns-clause-kept : goal.returns-clause-kept
returns-clause-kept c = c.lift_instance.ensures.kept

pub returns-clause-facts : goal.returns-clause-facts
returns-clause-facts c = c.lift_instance.ensures.facts

pub returns-clause-gives : goal.returns-clause-gives
returns-clause-gives c = image_lands (signs_of c.args.symbols.now) c.args.log.now c.lift_instance.new.log c.args.th.0 _ _ _ _ _ _ c.lift_instance.result c.as_slice-3.ensures (c.as_slice-4.ensures ∙ c.in_ok-seen.ensures ∙ factored_as c.args.p.now c.args.unifier.now.binds c.args.j _ _ c.as_slice.ensures c.as_slice-2.ensures) c.as_slice-5.ensures
    (image_finished c.args.unifier.now.binds (factored c.args.p.now c.args.unifier.now.binds c.args.j)) c.lift_instance.ensures.gives
