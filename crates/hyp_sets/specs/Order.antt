-- The order of terms that finite sets of terms go by.
use Rattle.std.specs.Prelude.{Bool}
use Rattle.std.specs.Ordering.{eq_by_cmp}
use Rattle.hol_terms.specs.declared.term.Term.{Term}
pub use Rattle.hol_terms.specs.Order.{term_cmp}

-- the same term, as a test
abbrev pub is_same : Term → Term → Bool
is_same = eq_by_cmp term_cmp
