use Rattle.std.proofs.Common.{◌≡◌, ◌+◌, take}
use Rattle.fo_terms.specs.Substitution.{var, put_literals}
use Rattle.fo_infer.proofs.renaming.raised.Given as goal

abbrev pub invariant-loop-l : goal.invariant-loop-l
invariant-loop-l l = l.out ≡ put_literals (λ x. var (x + l.by)) (take l.l-index l.literals)
