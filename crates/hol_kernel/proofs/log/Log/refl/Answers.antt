use Rattle.std.proofs.Common.{refl}
use Rattle.kernel_rules.specs.declared.step.Step.TheVariants as step
use Rattle.hol_kernel.proofs.Growing.{extends_refl}
use Rattle.hol_kernel.proofs.Applying.{refl_made}
use Rattle.hol_kernel.proofs.Making.{some_at, made_gives, made_at, err_free, err_made}
use Rattle.hol_kernel.proofs.log.Log.refl.Goals as goal

pub make-requires : goal.make-requires
make-requires c = some_at c.args.self.now.env c.args.self.now.sequents _ _ _ (λ i. step.Refl (c.in_ok-value.ensures i)) (refl_made c.args.self.now.env c.args.self.now.sequents c.args.t.now c.requires)

pub returns-in_err-value-clause-kept : goal.returns-in_err-value-clause-kept
returns-in_err-value-clause-kept c = extends_refl c.args.self.now

pub returns-in_err-value-clause-gives : goal.returns-in_err-value-clause-gives
returns-in_err-value-clause-gives c = err_free c.from_residual.result _ c.from_residual.ensures.0

pub returns-in_err-value-clause-made : goal.returns-in_err-value-clause-made
returns-in_err-value-clause-made c = err_made c.args.self.now _ c.from_residual.result c.from_residual.ensures.0

pub returns-clause-kept : goal.returns-clause-kept
returns-clause-kept c = c.make.ensures.kept

pub returns-clause-made : goal.returns-clause-made
returns-clause-made c = made_at c.args.self.now c.make.new.self c.make.result _ _ (λ i. step.Refl (c.in_ok-value.ensures i)) c.make.ensures.made

pub returns-clause-gives : goal.returns-clause-gives
returns-clause-gives c = made_gives c.args.self.now c.make.new.self c.make.result _ _ (refl_made c.args.self.now.env c.args.self.now.sequents c.args.t.now c.requires) (made_at c.args.self.now c.make.new.self c.make.result _ _ (λ i. step.Refl (c.in_ok-value.ensures i)) c.make.ensures.made)

pub returns-in_err-value-clause-facts : goal.returns-in_err-value-clause-facts
returns-in_err-value-clause-facts c = refl

pub returns-clause-facts : goal.returns-clause-facts
returns-clause-facts c = c.make.ensures.facts refl
