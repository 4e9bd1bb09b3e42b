use Rattle.std.proofs.Common.{◌≡◌, take, map}
use Rattle.fo_terms.specs.Substitution.{put}
use Rattle.fo_terms.specs.Normal.{numbering}
use Rattle.fo_terms.proofs.normal.+renumbering.Given as goal

abbrev pub invariant-renumber_all-loop-t : goal.invariant-renumber_all-loop-t
invariant-renumber_all-loop-t l = l.out ≡ map (put (numbering l.seen)) (take l.t-index l.terms)
