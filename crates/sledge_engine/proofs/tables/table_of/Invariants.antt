use Rattle.std.proofs.Common.{map, take}
use Rattle.sledge_engine.specs.inner.Lookups.{Finds}
use Rattle.sledge_engine.proofs.tables.table_of.Given as goal

abbrev pub invariant-loop-word : goal.invariant-loop-word
invariant-loop-word l = Finds (map (λ w. w.now) (take l.word-index l.words)) l.table
