use Rattle.std.proofs.Common.{refl}
use Rattle.engine_tests.proofs.races.is_answered_over.Goals as goal

pub same-notes : goal.same-notes
same-notes g c = refl

pub same-out : goal.same-out
same-out g c = refl
