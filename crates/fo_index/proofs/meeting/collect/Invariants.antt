use Rattle.std.proofs.Common.{take}
use Rattle.std.specs.Prelude.{Contains}
use Rattle.fo_index.specs.inner.Collected.{Collects}
use Rattle.fo_index.proofs.meeting.collect.Given as goal

abbrev pub invariant-loop-place : goal.invariant-loop-place
invariant-loop-place l = Collects l.filed l.front (Contains (take l.place-index l.places)) l.initial.ids.items l.ids.items
