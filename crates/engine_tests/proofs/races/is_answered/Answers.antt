use Rattle.std.proofs.Common.{refl}
use Rattle.engine_tests.proofs.races.is_answered.Goals as goal

pub same-shelf : goal.same-shelf
same-shelf g c = refl

pub same-launcher : goal.same-launcher
same-launcher g c = refl

pub same-out : goal.same-out
same-out g c = refl

pub same-out-then-done-status : goal.same-out-then-done-status
same-out-then-done-status g c = refl
