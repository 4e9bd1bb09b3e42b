use Rattle.std.proofs.Common.{◌≡◌, take}
use Rattle.fo_terms.specs.Substitution.{put_literals}
use Rattle.fo_terms.specs.Normal.{numbering}
use Rattle.fo_terms.specs.inner.Gathered.{lent}
use Rattle.fo_terms.proofs.normal.renumber_literals.Given as goal

abbrev pub invariant-loop-l : goal.invariant-loop-l
invariant-loop-l l = l.out ≡ put_literals (numbering l.seen) (lent (take l.l-index l.literals))
