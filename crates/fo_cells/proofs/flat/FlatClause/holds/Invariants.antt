use Rattle.std.proofs.Common.{◌≡◌, ◌++◌, drop}
use Rattle.std.specs.List.{list_any}
use Rattle.fo_terms.specs.declared.literal.Literal.{Literal}
use Rattle.fo_terms.specs.Same.{is_literal}
use Rattle.fo_cells.specs.inner.Seen.{IsMadeOf}
use Rattle.fo_cells.proofs.flat.FlatClause.holds.Given as goal

abbrev pub invariant-loop-i : goal.invariant-loop-i
invariant-loop-i l =
    (k : Literal) → IsMadeOf k l.positive l.equation (l.left ++ l.right) → list_any (λ m. is_literal m k) (drop l.i l.self) ≡ list_any (λ m. is_literal m k) l.self
