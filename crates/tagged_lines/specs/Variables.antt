-- The names and types of the variables of a line: those of its parents side by side, and those of its normal form.
use Rattle.std.specs.Prelude.{ℕ, zero, suc, ◌+◌, ◌-◌, ◌==◌, if◌then◌else◌, nat_lt, List, [], ◌∷◌, None}
use Rattle.std.specs.List.{list_any}
use Rattle.fo_terms.specs.declared.term.FoTerm.{FoTerm}
use Rattle.fo_terms.specs.declared.literal.Literal.{Literal}
use Rattle.fo_terms.specs.declared.clause.Clause.{Clause}
use Rattle.fo_terms.specs.Substitution.{var, put}
use Rattle.fo_terms.specs.Normal.{firsts, lasting, clause_variables}
use Rattle.fo_unify.specs.declared.subst.Bind.{Bind}
use Rattle.fo_unify.specs.Lookup.{term_of}
use Rattle.fo_infer.specs.Inferences.{above_all}
use Rattle.tagged_terms.specs.Readings.{Types}

-- the types of the variables that occur in the literals
abbrev pub own : List Literal → Types → Types
own ls types x = if list_any (λ y. y == x) (clause_variables ls) then types x else None

-- the left clause's types, and behind them, from `n` on, the right one's
abbrev pub beside : ℕ → Types → Types → Types
beside n left right x = if nat_lt x n then left x else right (x - n)

-- the variables of the right clause, renamed apart
abbrev pub apart_from : Clause → ℕ → FoTerm
apart_from p x = var (x + above_all (clause_variables p.literals))

-- a variable's place among those seen, and behind these each other one
abbrev pub final_number : List ℕ → ℕ → ℕ
final_number [] x = x
final_number (y ∷ ys) x = if x == y then zero else suc (final_number ys x)

-- the types of the numbers
abbrev pub final_types : List ℕ → Types → Types
final_types [] types x = types x
final_types (y ∷ ys) types zero = types y
final_types (y ∷ ys) types (suc x) = final_types ys types x

-- the variables that the normal form keeps, in its order
abbrev pub lasting_variables : List Literal → List ℕ
lasting_variables ls = firsts ◌==◌ (clause_variables (lasting ls))

-- the names of the normal form; variables that it doesn't keep stand behind them
abbrev pub final : List Literal → ℕ → FoTerm
final ls x = var (final_number (lasting_variables ls) x)

-- a unifier, and then the names of the normal form of these literals
abbrev pub finished : List Bind → List Literal → ℕ → FoTerm
finished binds ls x = put (final ls) (term_of binds x)

-- the same for the variables of a right parent
abbrev pub finished_apart : Clause → List Bind → List Literal → ℕ → FoTerm
finished_apart p binds ls x = put (finished binds ls) (apart_from p x)
