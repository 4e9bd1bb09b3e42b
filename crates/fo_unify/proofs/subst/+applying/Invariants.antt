use Rattle.std.proofs.Common.{◌≡◌, take, map}
use Rattle.fo_terms.specs.Substitution.{put}
use Rattle.fo_unify.specs.Lookup.{term_of}
use Rattle.fo_unify.proofs.subst.+applying.Given as goal

abbrev pub invariant-apply_all-loop-t : goal.invariant-apply_all-loop-t
invariant-apply_all-loop-t l = l.out ≡ map (put (term_of l.binds)) (take l.t-index l.ts)
