use Rattle.std.proofs.Common.{refl}
use Rattle.text_tests.proofs.terms.readings.Goals as goal

pub same-known : goal.same-known
same-known c = refl

pub same-known-then-sentences : goal.same-known-then-sentences
same-known-then-sentences c = refl

pub same-known-then-sentences-2 : goal.same-known-then-sentences-2
same-known-then-sentences-2 c = refl

pub same-known-else-sentences : goal.same-known-else-sentences
same-known-else-sentences c = refl
