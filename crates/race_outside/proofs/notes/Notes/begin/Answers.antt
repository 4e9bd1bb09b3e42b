use Rattle.std.proofs.Common.{arith, ap, length}
use Rattle.race_outside.proofs.Rooms.{no-ids}
use Rattle.race_outside.proofs.notes.Notes.begin.Goals as goal

pub invariant_of-result : goal.invariant_of-result
invariant_of-result c =
    record { killed = no-ids _ _ _ (ap length c.begin.ensures) c.new.ensures.items; waited = no-ids _ _ _ (ap length c.begin.ensures) c.new-2.ensures.items; bound = omega arith }
