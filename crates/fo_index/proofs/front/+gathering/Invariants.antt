use Rattle.std.proofs.Common.{true, take, map}
use Rattle.std.specs.List.{concat}
use Rattle.fo_index.specs.Fronts.{marks}
use Rattle.fo_index.specs.inner.Gathered.{Gathers}
use Rattle.fo_index.proofs.front.+gathering.Given as goal

abbrev pub invariant-gather_all-loop-t : goal.invariant-gather_all-loop-t
invariant-gather_all-loop-t l = Gathers l.initial.done (concat (map marks (take l.t-index l.terms))) true l.done
