use Rattle.fo_index.specs.inner.Collected.{Collects}
use Rattle.fo_index.proofs.Collecting.{Shorter}
use Rattle.fo_index.proofs.meeting.met.Given as goal

abbrev pub invariant-loop-length : goal.invariant-loop-length
invariant-loop-length l = Collects l.filed l.front (Shorter l.filed l.front l.whole l.length) l.initial.ids.items l.ids.items
