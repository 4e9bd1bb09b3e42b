use Rattle.std.proofs.Common.{◌≡◌, take, map}
use Rattle.fo_terms.specs.Substitution.{put}
use Rattle.clause_instances.specs.Images.{image}
use Rattle.clause_instances.proofs.image.+imaging.Given as goal

abbrev pub invariant-all_images-loop-t : goal.invariant-all_images-loop-t
invariant-all_images-loop-t l = l.out ≡ map (put (image l.u.by l.u.binds.now l.u.seen.now)) (take l.t-index l.terms)
