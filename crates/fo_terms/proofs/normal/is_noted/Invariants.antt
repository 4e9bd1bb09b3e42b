use Rattle.std.proofs.Common.{◌≡◌, ◌==◌, drop}
use Rattle.std.specs.List.{list_any}
use Rattle.fo_terms.proofs.normal.is_noted.Given as goal

abbrev pub invariant-loop-y : goal.invariant-loop-y
invariant-loop-y l = list_any (λ y. y == l.x) (drop l.y-index l.seen) ≡ list_any (λ y. y == l.x) l.seen
