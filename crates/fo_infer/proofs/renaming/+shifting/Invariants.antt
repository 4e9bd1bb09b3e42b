use Rattle.std.proofs.Common.{◌≡◌, ◌+◌, take, map}
use Rattle.fo_terms.specs.Substitution.{var, put}
use Rattle.fo_infer.proofs.renaming.+shifting.Given as goal

abbrev pub invariant-shift_all-loop-t : goal.invariant-shift_all-loop-t
invariant-shift_all-loop-t l = l.out ≡ map (put (λ x. var (x + l.by))) (take l.t-index l.terms)
