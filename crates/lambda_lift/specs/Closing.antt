-- A term under binders closed by lambdas over those of the binders' variables that occur in it.
use Rattle.std.specs.Prelude.{ℕ, zero, suc, ◌+◌, ◌-◌, Bool, false, ◌&&◌, ◌||◌, ◌==◌, if◌then◌else◌, nat_lt, List, [], ◌∷◌, map, length, slice_get, unwrap_or}
use Rattle.hol_terms.specs.declared.ty.Ty.{Ty}
use Rattle.hol_terms.specs.declared.term.Term.{Term, roll-Term}
use Rattle.hol_terms.specs.declared.term.Term.TheOpen.{Term-F}
use Rattle.hol_terms.specs.declared.term.Term.TheFolds.{fold-Term}
use Rattle.hol_terms.specs.Types.{bool_ty}

-- the variable of binder `v` around the term, counted from the innermost, occurs behind `d` binders of the term
abbrev pub occurs_step : ℕ → Term-F (ℕ → Bool) → ℕ → Bool
occurs_step v (Term-F.Bound i) d = i == d + v
occurs_step v (Term-F.Free n a) d = false
occurs_step v (Term-F.Con k) d = false
occurs_step v (Term-F.App f x) d = f d || x d
occurs_step v (Term-F.Lam a b) d = b (d + 1)

abbrev pub occurs_behind : ℕ → Term → ℕ → Bool
occurs_behind v = fold-Term (ℕ → Bool) (occurs_step v)

abbrev pub occurs_in : Term → ℕ → Bool
occurs_in t v = occurs_behind v t 0

-- those of the `n` innermost variables that pass, the outermost first
abbrev pub variables : (ℕ → Bool) → ℕ → List ℕ
variables p zero = []
variables p (suc n) = if p n then n ∷ variables p n else variables p n

-- what variable `v` becomes where lambdas over the variables that pass stand around the term: the index of its own lambda,
-- or one that points beyond all of them
abbrev pub lambda_of : (ℕ → Bool) → ℕ → ℕ → ℕ
lambda_of p n v = if nat_lt v n && p v then length (variables p v) else v + length (variables p n)

-- each variable of a binder around the term renamed
abbrev pub rename_step : (ℕ → ℕ) → Term-F (ℕ → Term) → ℕ → Term
rename_step r (Term-F.Bound i) d = roll-Term (Term-F.Bound (if nat_lt i d then i else d + r (i - d)))
rename_step r (Term-F.Free n a) d = roll-Term (Term-F.Free n a)
rename_step r (Term-F.Con k) d = roll-Term (Term-F.Con k)
rename_step r (Term-F.App f x) d = roll-Term (Term-F.App (f d) (x d))
rename_step r (Term-F.Lam a b) d = roll-Term (Term-F.Lam a (b (d + 1)))

abbrev pub renamed : (ℕ → ℕ) → Term → ℕ → Term
renamed r = fold-Term (ℕ → Term) (rename_step r)

-- lambdas over variables of these types, the outermost first
abbrev pub lambdas : List Ty → Term → Term
lambdas [] t = t
lambdas (a ∷ types) t = roll-Term (Term-F.Lam a (lambdas types t))

-- the type of variable `v` of these binders, the innermost first
abbrev pub ty_at : List Ty → ℕ → Ty
ty_at binders v = unwrap_or (slice_get binders v) bool_ty

-- the term under lambdas over the binders' variables that occur in it
abbrev pub closed_over : List Ty → Term → Term
closed_over binders t =
    lambdas (map (ty_at binders) (variables (occurs_in t) (length binders))) (renamed (lambda_of (occurs_in t) (length binders)) t 0)

-- a term applied to variables, one after another
abbrev pub applied_to : Term → List ℕ → Term
applied_to f [] = f
applied_to f (v ∷ vs) = applied_to (roll-Term (Term-F.App f (roll-Term (Term-F.Bound v)))) vs
