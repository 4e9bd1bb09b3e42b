use Rattle.std.proofs.Common.{refl, ap, ◌∙◌}
use Rattle.tagged_terms.specs.Readings.{signs_of}
use Rattle.hol_kernel.proofs.Growing.{extends_refl}
use Rattle.hol_kernel.proofs.Making.{err_free}
use Rattle.clause_instances.specs.Theorems.{clause_of, Lands}
use Rattle.clause_instances.proofs.Answered.{if_ok_map}
use Rattle.fo_terms.specs.Normal.{normal_of}
use Rattle.tagged_lines.specs.Variables.{lasting_variables}
use Rattle.hol_lift.proofs.Singles.{image_final, input_instance, input_last, input_tagged}
use Rattle.hol_lift.specs.Refutations.{IsTaggedClause}
use Rattle.hol_lift.proofs.LandedAs.{as_image, image_lands}
use Rattle.hol_lift.proofs.single.lift_input.Goals as goal

pub returns-in_err-seen-clause-kept : goal.returns-in_err-seen-clause-kept
returns-in_err-seen-clause-kept c = extends_refl c.args.log.now

pub returns-in_err-seen-clause-facts : goal.returns-in_err-seen-clause-facts
returns-in_err-seen-clause-facts c = refl

pub returns-in_err-seen-clause-gives : goal.returns-in_err-seen-clause-gives
returns-in_err-seen-clause-gives c = err_free c.from_residual.result _ c.from_residual.ensures.0

pub lift_instance-requires-clause-symbols : goal.lift_instance-requires-clause-symbols
lift_instance-requires-clause-symbols c = c.requires.symbols

pub lift_instance-requires-clause-fits : goal.lift_instance-requires-clause-fits
lift_instance-requires-clause-fits c = as_image c.args.log.now.env.sig (signs_of c.args.symbols.now) _ _ _ _ _ _ (c.as_slice-2.ensures ∙ c.begin-binds.ensures) (c.as_slice-3.ensures ∙ c.in_ok-seen.ensures ∙ ap lasting_variables c.as_slice.ensures) c.as_slice-4.ensures (image_final c.args.p.now.literals)
    (input_instance c.args.log.now.env.sig (signs_of c.args.symbols.now) c.requires.symbols c.args.p.now c.requires.tagged)

pub lift_instance-requires-clause-th : goal.lift_instance-requires-clause-th
lift_instance-requires-clause-th c = c.requires.th

pub lift_instance-requires-clause-false_is : goal.lift_instance-requires-clause-false_is
lift_instance-requires-clause-false_is c = c.requires.false_is

pub returns-clause-kept : goal.returns-clause-kept
returns-clause-kept c = c.lift_instance.ensures.kept

pub returns-clause-facts : goal.returns-clause-facts
returns-clause-facts c = c.lift_instance.ensures.facts

pub returns-clause-gives : goal.returns-clause-gives
returns-clause-gives c = if_ok_map c.lift_instance.result _ (λ r. Lands c.args.log.now c.lift_instance.new.log c.args.th.0 (clause_of (signs_of c.args.symbols.now) c.args.p.now.literals) r.0 (clause_of (signs_of c.args.symbols.now) (normal_of c.args.p.now.literals)) × IsTaggedClause (signs_of c.args.symbols.now) (normal_of c.args.p.now.literals))
    (λ r f. (f (clause_of (signs_of c.args.symbols.now) (normal_of c.args.p.now.literals)) (input_last c.args.log.now.env.sig (signs_of c.args.symbols.now) c.requires.symbols c.args.p.now c.requires.tagged), input_tagged c.args.log.now.env.sig (signs_of c.args.symbols.now) c.requires.symbols c.args.p.now c.requires.tagged))
    (image_lands (signs_of c.args.symbols.now) c.args.log.now c.lift_instance.new.log c.args.th.0 _ _ _ _ _ _ c.lift_instance.result (c.as_slice-2.ensures ∙ c.begin-binds.ensures) (c.as_slice-3.ensures ∙ c.in_ok-seen.ensures ∙ ap lasting_variables c.as_slice.ensures) c.as_slice-4.ensures (image_final c.args.p.now.literals) c.lift_instance.ensures.gives)
