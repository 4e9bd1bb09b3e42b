use Rattle.std.proofs.Common.{◌≡◌, take}
use Rattle.fo_infer.specs.Paths.{changed_at, replaced}
use Rattle.fo_infer.proofs.paths.+replacing.Given as goal

abbrev pub invariant-replace_in-loop-k : goal.invariant-replace_in-loop-k
invariant-replace_in-loop-k l = l.out ≡ take l.k (changed_at l.fn.place (replaced l.rest l.by) l.terms)
