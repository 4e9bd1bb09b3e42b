use Rattle.std.proofs.Common.{refl, sym, ◌∙◌}
use Rattle.kernel_rules.proofs.OverSignature.{derived_over}
use Rattle.hol_kernel.specs.Logs.{logged}
use Rattle.hol_kernel.proofs.Following.{as_many}
use Rattle.hol_kernel.proofs.append.try_append.Goals as goal

pub sequent_of-requires : goal.sequent_of-requires
sequent_of-requires c = derived_over c.args.env.now c.args.steps.now c.args.sequents.now c.requires

pub returns-in-Ok : goal.returns-in-Ok
returns-in-Ok c = record {
  env = refl;
  steps = c.in-Ok.ensures.steps;
  sequents = (c.in-Ok-Some.q, (sym c.in-Ok-Some.ensures ∙ c.in-Ok-Some.field-0-is, c.in-Ok.ensures.sequents));
  at = c.len-at.ensures ∙ sym (as_many c.args.env.now c.args.steps.now c.args.sequents.now c.requires);
}

pub returns-in-Err-both : goal.returns-in-Err-both
returns-in-Err-both c = λ i. logged c.args.env.now (c.in-Err-both.ensures.steps_stay i) (c.in-Err-both.ensures.sequents_stay i)

pub returns-in-Ok-None : goal.returns-in-Ok-None
returns-in-Ok-None c = (sym c.in-Ok-None.ensures ∙ c.in-Ok-None.field-0-is, (c.len-at.ensures, refl))

pub returns-in-Err : goal.returns-in-Err
returns-in-Err c = refl
