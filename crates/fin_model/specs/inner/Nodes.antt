-- The number of a term's nodes, which falls from a term to its parts.
use Rattle.std.specs.Prelude.{ℕ, ◌+◌}
use Rattle.hol_terms.specs.declared.term.Term.{Term}
use Rattle.hol_terms.specs.declared.term.Term.TheOpen.{Term-F}
use Rattle.hol_terms.specs.declared.term.Term.TheFolds.{fold-Term}

abbrev pub nodes_step : Term-F ℕ → ℕ
nodes_step (Term-F.Bound i) = 1
nodes_step (Term-F.Free n a) = 1
nodes_step (Term-F.Con k) = 1
nodes_step (Term-F.App f x) = f + x + 1
nodes_step (Term-F.Lam a b) = b + 1

abbrev pub nodes : Term → ℕ
nodes = fold-Term ℕ nodes_step
