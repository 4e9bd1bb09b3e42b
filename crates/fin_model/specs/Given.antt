-- The valuation that a list of values gives.
use Rattle.std.specs.Prelude.{◌≡◌, ℕ, ◌<◌, true, ◌&&◌, ◌==◌, if◌then◌else◌, List, [], ◌∷◌}
use Rattle.hol_terms.specs.declared.ty.Ty.{Ty}
use Rattle.hol_terms.specs.declared.term.Term.{Term}
use Rattle.hol_terms.specs.Types.{is_ty}
use Rattle.hol_terms.specs.Substitution.{occurs}
use Rattle.model_truth.specs.declared.model.Model.{Model}
use Rattle.model_truth.specs.Sizes.{size}
use Rattle.model_truth.specs.Values.{Valuation}
use Rattle.fin_model.specs.declared.valued.Valued.{Valued}

-- the value that is listed first for the variable, 0 where none is
abbrev pub given : List Valued → Valuation
given [] n a = 0
given (e ∷ more) n a = if e.n == n && is_ty e.ty a then e.value else given more n a

-- each variable that occurs in the term has a value of its type
abbrev pub IsGiven : Model → Valuation → Term → Type 0
IsGiven m v t = (n : ℕ) (a : Ty) → occurs n a t ≡ true → v n a < size m a
