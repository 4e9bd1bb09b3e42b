-- A list of bindings as a substitution: the first binding of a variable counts.
use Rattle.std.specs.Prelude.{ℕ, ◌==◌, if◌then◌else◌, List, [], ◌∷◌, Option, Some, None, unwrap_or}
use Rattle.fo_terms.specs.declared.term.FoTerm.{FoTerm}
use Rattle.fo_terms.specs.Substitution.{var}
use Rattle.fo_unify.specs.declared.subst.Bind.{Bind}

-- the term that the variable is bound to, where it is bound
abbrev pub lookup : List Bind → ℕ → Option FoTerm
lookup [] x = None
lookup (b ∷ bs) x = if b.var == x then Some b.term else lookup bs x

-- the term that stands for the variable, which stands for itself where it isn't bound
abbrev pub term_of : List Bind → ℕ → FoTerm
term_of binds x = unwrap_or (lookup binds x) (var x)
