use Rattle.std.proofs.Common.{ℕ, ◌≤◌, ◌^◌, sym, subst, arith}
use Rattle.model_truth.specs.Sizes.{size}
use Rattle.fin_model.proofs.Powers.{base_below, exponent_below}
use Rattle.std.proofs.lemmas.Nat.{pow_pos}
use Rattle.fin_model.proofs.constants.equality.Goals as goal

pub counted-count-requires : goal.counted-count-requires
counted-count-requires c =
    exponent_below 2 (size c.args.model.now c.args.a.now) 65536 (omega arith) (base_below (2 ^ size c.args.model.now c.args.a.now) (size c.args.model.now c.args.a.now) 65536 (pow_pos (size c.args.model.now c.args.a.now)) c.requires.some c.requires.small)

pub predicates-requires : goal.predicates-requires
predicates-requires c =
    subst (λ (z : ℕ). 2 ^ z ≤ 65536) (sym c.counted-count.ensures) (base_below (2 ^ size c.args.model.now c.args.a.now) (size c.args.model.now c.args.a.now) 65536 (pow_pos (size c.args.model.now c.args.a.now)) c.requires.some c.requires.small)
