use Rattle.std.proofs.Common.{◌≡◌, sym, subst, ◌∙◌}
use Rattle.theory_terms.specs.Answers.{Good, Refused}
use Rattle.theory_reader.specs.Declaring.{assumption}
use Rattle.theory_reader.specs.inner.Stages.{so_far, Agrees}
use Rattle.theory_reader.proofs.Assumed.{one_more, refused}
use Rattle.theory_reader.proofs.assume.assumed.Goals as goal

pub returns-in-Err : goal.returns-in-Err
returns-in-Err c = record {
  assumes =
      refused c.args.text.now (so_far c.args.parts.now) c.args.goal.now c.args.hyps.now c.loop-hyp.hyp-index c.hyp-item.result c.loop-hyp.assumes
      c.loop-hyp-test.true c.hyp-item.is c.loop-hyp.invariant.rest c.in-Err.e
      (subst (λ p. Refused (assumption c.args.text.now (so_far p) c.args.goal.now c.loop-hyp.assumes c.hyp-item.result) c.in-Err.e) c.loop-hyp.invariant.parts c.in-Err.ensures.assumes);
  parts = c.push_assumption.ensures.parts ∙ c.loop-hyp.invariant.parts;
}

pub loop-hyp-preserved : goal.loop-hyp-preserved
loop-hyp-preserved c = record {
  rest =
      one_more c.args.text.now (so_far c.args.parts.now) c.args.goal.now c.args.hyps.now c.loop-hyp.hyp-index c.hyp-item.result c.loop-hyp.assumes
      c.loop-hyp-test.true c.hyp-item.is c.loop-hyp.invariant.rest c.push_assumption.new.assumes
      (subst (λ p. assumption c.args.text.now (so_far p) c.args.goal.now c.loop-hyp.assumes c.hyp-item.result ≡ Good c.push_assumption.new.assumes) c.loop-hyp.invariant.parts c.in-Ok.ensures.assumes.0);
  names = c.in-Ok.ensures.assumes.1;
  parts = c.push_assumption.ensures.parts ∙ c.loop-hyp.invariant.parts;
  agrees = subst Agrees (sym c.push_assumption.ensures.parts) c.loop-hyp.invariant.agrees;
}
