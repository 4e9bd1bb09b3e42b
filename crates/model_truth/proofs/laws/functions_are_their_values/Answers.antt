use Rattle.std.proofs.Common.{ℕ, ◌<◌, subst}
use Rattle.model_truth.specs.Sizes.{size}
use Rattle.model_truth.proofs.Digits.{equal_digits}
use Rattle.model_truth.proofs.Sizing.{size_positive, size-function}
use Rattle.model_truth.proofs.laws.functions_are_their_values.Goals as goal

pub returns : goal.returns
returns c =
    λ is f g hf hg each. equal_digits (size c.args.model.now c.args.to.now) (size c.args.model.now c.args.from.now) f g (size_positive c.args.sig.now c.args.model.now is c.args.to.now)
    (subst (λ (z : ℕ). f < z) (size-function c.args.model.now c.args.from.now c.args.to.now) hf) (subst (λ (z : ℕ). g < z) (size-function c.args.model.now c.args.from.now c.args.to.now) hg) each
