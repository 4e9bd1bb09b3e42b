-- All variables of a list bound at once.
use Rattle.std.specs.Prelude.{ℕ, ◌+◌, Bool, ◌&&◌, ◌==◌, nat_lt, if◌then◌else◌, List, [], ◌∷◌, length, Option, Some, None}
use Rattle.hol_terms.specs.declared.ty.Ty.{Ty}
use Rattle.hol_terms.specs.declared.term.Term.{Term, roll-Term}
use Rattle.hol_terms.specs.declared.term.Term.TheOpen.{Term-F}
use Rattle.hol_terms.specs.declared.term.Term.TheFolds.{fold-Term}
use Rattle.hol_terms.specs.Types.{is_ty}
use Rattle.kernel_rules.specs.Connectives.{lambda}
use Rattle.formula_clauses.specs.Choices.{Variable}

-- the index of a variable's lambda, counted from the innermost, which is that of the last variable
abbrev pub place_or : Option ℕ → Bool → ℕ → Option ℕ
place_or (Some j) here n = Some j
place_or None here n = if here then Some n else None

abbrev pub place_of : List Variable → ℕ → Ty → Option ℕ
place_of [] m b = None
place_of (v ∷ vs) m b = place_or (place_of vs m b) (m == v.0 && is_ty b v.1) (length vs)

abbrev pub bound_at : Option ℕ → ℕ → Ty → ℕ → Term
bound_at (Some j) m b d = roll-Term (Term-F.Bound (d + j))
bound_at None m b d = roll-Term (Term-F.Free m b)

abbrev pub bind_step : List Variable → Term-F (ℕ → Term) → ℕ → Term
bind_step vs (Term-F.Bound i) d = roll-Term (Term-F.Bound (if nat_lt i d then i else i + length vs))
bind_step vs (Term-F.Free m b) d = bound_at (place_of vs m b) m b d
bind_step vs (Term-F.Con k) d = roll-Term (Term-F.Con k)
bind_step vs (Term-F.App f x) d = roll-Term (Term-F.App (f d) (x d))
bind_step vs (Term-F.Lam a b) d = roll-Term (Term-F.Lam a (b (d + 1)))

abbrev pub bound_by : List Variable → Term → ℕ → Term
bound_by vs = fold-Term (ℕ → Term) (bind_step vs)

-- lambdas over variables of these types, the first outermost
abbrev pub lambdas : List Variable → Term → Term
lambdas [] t = t
lambdas (v ∷ vs) t = lambda v.1 (lambdas vs t)
