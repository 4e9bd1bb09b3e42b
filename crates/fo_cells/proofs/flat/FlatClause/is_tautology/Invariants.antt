use Rattle.std.proofs.Common.{◌≡◌, ◌&&◌, ◌||◌, drop}
use Rattle.std.specs.List.{list_any}
use Rattle.fo_terms.specs.Same.{is_literal}
use Rattle.fo_terms.specs.Normal.{is_identity, complement, is_tautology}
use Rattle.fo_cells.proofs.flat.FlatClause.is_tautology.Given as goal

abbrev pub invariant-loop-i : goal.invariant-loop-i
invariant-loop-i l =
    list_any (λ m. (m.positive && is_identity m.atom) || list_any (is_literal (complement m)) l.self) (drop l.i l.self) ≡ is_tautology l.self
