use Rattle.std.proofs.Common.{◌≡◌, ◌||◌, ◌&&◌, drop}
use Rattle.std.specs.List.{list_any}
use Rattle.fo_terms.specs.Same.{is_literal}
use Rattle.fo_terms.specs.Normal.{is_identity, complement, is_tautology}
use Rattle.fo_terms.proofs.clause.Clause.is_tautology.Given as goal

abbrev pub invariant-loop-l : goal.invariant-loop-l
invariant-loop-l l = list_any (λ m. (m.positive && is_identity m.atom) || list_any (is_literal (complement m)) l.self.literals) (drop l.l-index l.self.literals) ≡ is_tautology l.self.literals
