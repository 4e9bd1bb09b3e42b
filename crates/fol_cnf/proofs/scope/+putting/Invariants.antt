use Rattle.std.proofs.Common.{◌≡◌, take, map}
use Rattle.fo_terms.specs.Substitution.{put}
use Rattle.fol_cnf.specs.inner.Chains.{chained}
use Rattle.fol_cnf.proofs.scope.+putting.Given as goal

abbrev pub invariant-put_in_all-loop-t : goal.invariant-put_in_all-loop-t
invariant-put_in_all-loop-t l = l.out ≡ map (put (chained l.scope)) (take l.t-index l.terms)
