-- Clauses have one list of inferences: it doesn't depend on the most general unifiers that are taken.
use Rattle.std.specs.Prelude.{◌≡◌, List}
use Rattle.fo_terms.specs.declared.clause.Clause.{Clause}
use Rattle.fo_infer.specs.declared.made.Made.{Made}
use Rattle.fo_infer.specs.Inferences.{Position, Alone, BetweenAt}

-- one clause has one list
abbrev pub HasOneList : Clause → Type 0
HasOneList p = (ms ns : List Made) → Alone p ms → Alone p ns → ms ≡ ns

-- two clauses have one list, whatever the positions
abbrev pub HaveOneList : Clause → Clause → Type 0
HaveOneList p q = (position : Position) (ms ns : List Made) → BetweenAt position p q ms → BetweenAt position p q ns → ms ≡ ns
