use Rattle.std.proofs.Common.{◌≡◌, take}
use Rattle.fo_terms.proofs.term.+copying.Given as goal

abbrev pub invariant-copy_all-loop-t : goal.invariant-copy_all-loop-t
invariant-copy_all-loop-t l = l.out ≡ take l.t-index l.terms
