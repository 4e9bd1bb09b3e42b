-- Copies of kept clauses with their variables raised.
use Rattle.std.specs.Prelude.{◌≡◌, ℕ, ◌+◌, List, length, Some, slice_get}
use Rattle.fo_terms.specs.declared.clause.Clause.{Clause}
use Rattle.fo_terms.specs.declared.literal.Literal.{Literal}
use Rattle.fo_terms.specs.Normal.{clause_variables}
use Rattle.fo_terms.specs.Substitution.{var, put_literals}
use Rattle.fo_infer.specs.declared.refutation.Line.{Line}
use Rattle.fo_infer.specs.Inferences.{above_all}
use Rattle.metis_core.specs.declared.raised.Raised.{Raised}
use Rattle.metis_core.specs.Stock.{clauses}

-- each copy that is there has the clause's variables raised by the number of its place
pub record IsRaised (c : Clause) (r : Raised) : Type 0 where
  pub above : r.above ≡ above_all (clause_variables c.literals)
  pub copies : (by : ℕ) (ls : List Literal) → slice_get r.copies by ≡ Some (Some ls) → ls ≡ put_literals (λ x. var (x + by)) c.literals

-- those of all lines, in their order
pub record AreRaised (lines : List Line) (all : List Raised) : Type 0 where
  pub as_many : length all ≡ length lines
  pub each : (n : ℕ) (c : Clause) (r : Raised) → slice_get (clauses lines) n ≡ Some c → slice_get all n ≡ Some r → IsRaised c r
