use Rattle.std.proofs.Common.{◌≡◌, take, map}
use Rattle.fo_terms.specs.Substitution.{put}
use Rattle.clause_instances.specs.Images.{named}
use Rattle.clause_instances.proofs.image.+naming.Given as goal

abbrev pub invariant-name_all-loop-t : goal.invariant-name_all-loop-t
invariant-name_all-loop-t l = l.out ≡ map (put (named l.seen)) (take l.t-index l.terms)
