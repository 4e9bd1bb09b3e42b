-- Subsumption of one clause by another.
use Rattle.std.specs.Prelude.{ℕ, ◌≤◌, length, All, Contains}
use Rattle.fo_terms.specs.declared.term.FoTerm.{FoTerm}
use Rattle.fo_terms.specs.declared.clause.Clause.{Clause}
use Rattle.fo_terms.specs.Substitution.{put_literal}

-- c has no more literals than d, and one substitution sends each literal of c to a literal of d
abbrev pub Subsumes : Clause → Clause → Type 0
Subsumes c d = (length c.literals ≤ length d.literals) × ((v : ℕ → FoTerm) × All (λ l. Contains d.literals (put_literal v l)) c.literals)
