use Rattle.std.proofs.Common.{◌≡◌, take}
use Rattle.fo_terms.specs.Substitution.{put_literals}
use Rattle.clause_instances.specs.Images.{image}
use Rattle.clause_instances.proofs.image.literals_image.Given as goal

abbrev pub invariant-loop-l : goal.invariant-loop-l
invariant-loop-l l = l.out ≡ put_literals (image l.u.by l.u.binds.now l.u.seen.now) (take l.l-index l.literals)
