use Rattle.std.proofs.Common.{◌≡◌, take}
use Rattle.fo_terms.specs.Normal.{lasting}
use Rattle.fo_terms.specs.inner.Gathered.{lent}
use Rattle.fo_terms.proofs.normal.lasting_of.Given as goal

abbrev pub invariant-loop-l : goal.invariant-loop-l
invariant-loop-l l = lent l.out ≡ lasting (take l.l-index l.literals)
