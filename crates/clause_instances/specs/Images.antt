-- What an inference puts for the variables of a parent.
use Rattle.std.specs.Prelude.{ℕ, ◌+◌, List}
use Rattle.fo_terms.specs.declared.term.FoTerm.{FoTerm}
use Rattle.fo_terms.specs.Substitution.{var, put}
use Rattle.fo_unify.specs.declared.subst.Bind.{Bind}
use Rattle.fo_unify.specs.Lookup.{term_of}
use Rattle.tagged_lines.specs.Variables.{final_number}

-- the names of a normal form whose variables are these, in its order; others stand behind them
abbrev pub named : List ℕ → ℕ → FoTerm
named seen x = var (final_number seen x)

-- a variable is raised to be apart from those of the other parent, the unifier is put for it, and the names
abbrev pub image : ℕ → List Bind → List ℕ → ℕ → FoTerm
image by binds seen x = put (named seen) (term_of binds (x + by))
