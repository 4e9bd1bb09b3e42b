use Rattle.std.proofs.Common.{ℕ, ◌<◌, ◌≤◌, ◌^◌, sym, subst}
use Rattle.model_truth.specs.Sizes.{size}
use Rattle.fin_model.specs.inner.Constants.{one_of}
use Rattle.fin_model.proofs.Bare.{eps_below}
use Rattle.fin_model.proofs.Powers.{base_below, predicates_below}
use Rattle.std.proofs.lemmas.Nat.{pow_pos}
use Rattle.fin_model.proofs.constants.choice.Goals as goal

pub counted-count-requires : goal.counted-count-requires
counted-count-requires c = base_below (size c.args.model.now c.args.a.now) (2 ^ size c.args.model.now c.args.a.now) 65536 c.requires.some (pow_pos (size c.args.model.now c.args.a.now)) c.requires.small

pub predicates-requires : goal.predicates-requires
predicates-requires c = subst (λ (z : ℕ). 2 ^ z ≤ 65536) (sym c.counted-count.ensures) (predicates_below (size c.args.model.now c.args.a.now) c.requires.some c.requires.small)

pub ones-requires-clause-each : goal.ones-requires-clause-each
ones-requires-clause-each c = λ x. subst (λ (z : ℕ). one_of c.args.model.now c.args.k.now x < z) (sym c.counted-count.ensures) (eps_below c.args.model.now c.args.k.now c.args.a.now x c.requires.is c.requires.some)
