use Rattle.std.proofs.Common.{refl, subst}
use Rattle.hol_kernel.specs.Logs.{logged}
use Rattle.hol_kernel.specs.Growth.{Attempts, Extends}
use Rattle.hol_kernel.proofs.Growing.{extends_refl}
use Rattle.hol_kernel.proofs.Attempted.{attempts_extends, attempts_derives}
use Rattle.hol_kernel.proofs.log.Log.try_step.Goals as goal

pub try_append-requires : goal.try_append-requires
try_append-requires c = c.self.invariant

pub invariant_of-self : goal.invariant_of-self
invariant_of-self c = attempts_derives _ _ c.args.step c.try_append.result c.try_append.ensures c.self.invariant

pub returns-in-Ok-clause-kept : goal.returns-in-Ok-clause-kept
returns-in-Ok-clause-kept c = subst (λ l. Extends l (logged c.self.inside.env.now c.try_append.new.steps c.try_append.new.sequents)) c.self.view_is (attempts_extends _ _ c.args.step c.try_append.result c.try_append.ensures)

pub returns-in-Ok-clause-gives : goal.returns-in-Ok-clause-gives
returns-in-Ok-clause-gives c = subst (λ l. Attempts l (logged c.self.inside.env.now c.try_append.new.steps c.try_append.new.sequents) c.args.step c.try_append.result) c.self.view_is c.try_append.ensures

pub same-self : goal.same-self
same-self c = refl

pub returns-in-Err-clause-kept : goal.returns-in-Err-clause-kept
returns-in-Err-clause-kept c = extends_refl c.args.self.now

pub returns-in-Err-clause-gives : goal.returns-in-Err-clause-gives
returns-in-Err-clause-gives c = refl
