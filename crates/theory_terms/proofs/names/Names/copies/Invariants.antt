use Rattle.std.proofs.Common.{◌≡◌, map, take}
use Rattle.theory_terms.proofs.names.Names.copies.Given as goal

abbrev pub invariant-loop-name : goal.invariant-loop-name
invariant-loop-name l = l.rows ≡ map (λ k. k.now) (take l.name-index l.name-items)
