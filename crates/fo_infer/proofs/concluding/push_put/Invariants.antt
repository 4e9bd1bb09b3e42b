use Rattle.std.proofs.Common.{◌≡◌, ◌++◌, take}
use Rattle.fo_terms.specs.Substitution.{put_literals}
use Rattle.fo_unify.specs.Lookup.{term_of}
use Rattle.fo_infer.proofs.concluding.push_put.Given as goal

abbrev pub invariant-loop-l : goal.invariant-loop-l
invariant-loop-l l = l.out ≡ l.initial.out ++ put_literals (term_of l.binds) (take l.l-index l.literals)
