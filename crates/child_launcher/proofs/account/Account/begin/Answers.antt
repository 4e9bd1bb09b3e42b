use Rattle.std.proofs.Common.{arith, refl}
use Rattle.race_outside.proofs.Rooms.{no-ids}
use Rattle.child_launcher.proofs.account.Account.begin.Goals as goal

pub invariant_of-result : goal.invariant_of-result
invariant_of-result c =
    record { killed = no-ids _ _ _ refl c.new.ensures.items; waited = no-ids _ _ _ refl c.new-2.ensures.items; bound = omega arith }
