use Rattle.std.proofs.Common.{refl}
use Rattle.text_tests.proofs.terms.faults.Goals as goal

pub same-known : goal.same-known
same-known c = refl

pub same-known-then-bound : goal.same-known-then-bound
same-known-then-bound c = refl

pub same-known-then-bound-2 : goal.same-known-then-bound-2
same-known-then-bound-2 c = refl

pub same-known-else-bound : goal.same-known-else-bound
same-known-else-bound c = refl
