use Rattle.std.proofs.Common.{refl}
use Rattle.hol_kernel.proofs.Popping.{back_to, on_to}
use Rattle.hol_kernel.proofs.append.both.Goals as goal

pub returns-in-Ok-clause-steps : goal.returns-in-Ok-clause-steps
returns-in-Ok-clause-steps c = c.with_step.ensures.steps

pub returns-in-Ok-clause-sequents : goal.returns-in-Ok-clause-sequents
returns-in-Ok-clause-sequents c = on_to c.with_step.result _ _ _ c.in-Ok.ensures.ok c.with_step.ensures.sequents

pub returns-in-Ok-clause-steps_stay : goal.returns-in-Ok-clause-steps_stay
returns-in-Ok-clause-steps_stay c = c.with_step.ensures.steps_stay

pub returns-in-Ok-clause-sequents_stay : goal.returns-in-Ok-clause-sequents_stay
returns-in-Ok-clause-sequents_stay c = back_to c.with_step.result c.args.sequents.now c.push.new.self c.with_step.new.sequents c.args.q c.in-Ok.ensures.ok c.with_step.ensures.last

pub returns-in-Err-clause-steps_stay : goal.returns-in-Err-clause-steps_stay
returns-in-Err-clause-steps_stay c = refl

pub returns-in-Err-clause-sequents_stay : goal.returns-in-Err-clause-sequents_stay
returns-in-Err-clause-sequents_stay c = c.in-Err.ensures.err
