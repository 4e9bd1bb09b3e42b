use Rattle.std.proofs.Common.{refl}
use Rattle.hol_kernel.proofs.Popping.{pop_back}
use Rattle.hol_kernel.proofs.append.with_step.Goals as goal

pub returns-in-Ok-clause-steps : goal.returns-in-Ok-clause-steps
returns-in-Ok-clause-steps c = c.in-Ok.ensures.ok

pub returns-in-Ok-clause-sequents : goal.returns-in-Ok-clause-sequents
returns-in-Ok-clause-sequents c = refl

pub returns-in-Err-clause-steps_stay : goal.returns-in-Err-clause-steps_stay
returns-in-Err-clause-steps_stay c = c.in-Err.ensures.err

pub returns-in-Err-clause-last : goal.returns-in-Err-clause-last
returns-in-Err-clause-last c = λ q front e. pop_back c.pop.result c.args.sequents.now c.pop.new.self front q c.pop.ensures e
