-- The free variables of terms.
use Rattle.std.specs.Prelude.{ℕ, Bool, true, false, ◌&&◌, ◌||◌, ◌==◌, List, [], ◌∷◌, slice_get}
use Rattle.hol_terms.specs.declared.ty.Ty.{Ty}
use Rattle.hol_terms.specs.declared.term.Term.{Term}
use Rattle.hol_terms.specs.declared.term.Term.TheOpen.{Term-F}
use Rattle.hol_terms.specs.declared.term.Term.TheFolds.{fold-Term}
use Rattle.hol_terms.specs.Types.{is_ty}
use Rattle.hol_terms.specs.Formulas.{has_ty}
use Rattle.formula_clauses.specs.Choices.{Variable}

-- each free variable of the term passes
abbrev pub free_step : (ℕ → Ty → Bool) → Term-F Bool → Bool
free_step p (Term-F.Bound i) = true
free_step p (Term-F.Free n a) = p n a
free_step p (Term-F.Con k) = true
free_step p (Term-F.App f x) = f && x
free_step p (Term-F.Lam a b) = b

abbrev pub each_free : (ℕ → Ty → Bool) → Term → Bool
each_free p = fold-Term Bool (free_step p)

-- the variable's type is the one at its number
abbrev pub has_number : List Ty → ℕ → Ty → Bool
has_number types n a = has_ty (slice_get types n) a

-- the variable
abbrev pub is_variable : ℕ → Ty → ℕ → Ty → Bool
is_variable n a m b = m == n && is_ty b a

-- the variable is one of these
abbrev pub is_listed : List Variable → ℕ → Ty → Bool
is_listed [] m b = false
is_listed (v ∷ vs) m b = is_variable v.0 v.1 m b || is_listed vs m b
