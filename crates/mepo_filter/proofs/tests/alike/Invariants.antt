use Rattle.std.specs.Prelude.{All}
use Rattle.mepo_filter.specs.inner.Places.{IsWithin}
use Rattle.mepo_filter.proofs.tests.alike.Given as goal

abbrev pub invariant-loop-fact : goal.invariant-loop-fact
invariant-loop-fact l = All (IsWithin l.constants) l.places
