use Rattle.std.proofs.Common.{subst, true, ◌≡◌}
use Rattle.lambda_lift.specs.Keys.{is_same}
use Rattle.lambda_lift.proofs.KeysApart.{same_told, same_itself}
use Rattle.lambda_lift.proofs.laws.keys_tell.Goals as goal

pub returns : goal.returns
returns c = (same_told c.args.s.now c.args.t.now, λ e. subst (λ u. is_same c.args.s.now u ≡ true) e (same_itself c.args.s.now))
