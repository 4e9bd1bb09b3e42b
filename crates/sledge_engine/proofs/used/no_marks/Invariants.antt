use Rattle.std.proofs.Common.{[]}
use Rattle.sledge_engine.specs.inner.Marks.{Marks}
use Rattle.sledge_engine.proofs.used.no_marks.Given as goal

abbrev pub invariant-loop : goal.invariant-loop
invariant-loop l = Marks l.counter [] l.marks
