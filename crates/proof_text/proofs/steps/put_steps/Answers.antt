use Rattle.proof_text.specs.inner.Vocabularies.{declared_names}
use Rattle.proof_text.proofs.StepTexts.{next_text, next_fits}
use Rattle.proof_text.proofs.steps.put_steps.Goals as goal

pub loop-number-preserved : goal.loop-number-preserved
loop-number-preserved c = record {
  text = next_text c.args.steps.now c.loop-number.number c.index-steps-number.result c.loop-number-test.true c.index-steps-number.is (declared_names c.args.names.now) c.args.out.now c.loop-number.out c.put_step.new.out
      c.loop-number.invariant.text c.in_ok-put_step.ensures.text;
  fits = next_fits c.args.steps.now c.loop-number.number c.index-steps-number.result c.loop-number-test.true c.index-steps-number.is c.loop-number.invariant.fits c.in_ok-put_step.ensures.fits;
}
