-- Substitution and abstraction on de Bruijn terms.
use Rattle.std.specs.Prelude.{ℕ, ◌+◌, ◌-◌, Bool, true, false, ◌&&◌, ◌||◌, ◌==◌, if◌then◌else◌, nat_lt}
use Rattle.hol_terms.specs.declared.ty.Ty.{Ty}
use Rattle.hol_terms.specs.declared.term.Term.{Term, roll-Term}
use Rattle.hol_terms.specs.declared.term.Term.TheOpen.{Term-F}
use Rattle.hol_terms.specs.declared.term.Term.TheFolds.{fold-Term}
use Rattle.hol_terms.specs.Types.{is_ty}

-- every index points to one of the `k` binders passed or to one of the term's own
abbrev pub closed_step : Term-F (ℕ → Bool) → ℕ → Bool
closed_step (Term-F.Bound i) k = nat_lt i k
closed_step (Term-F.Free n a) k = true
closed_step (Term-F.Con c) k = true
closed_step (Term-F.App f x) k = f k && x k
closed_step (Term-F.Lam a b) k = b (k + 1)

abbrev pub closed_under : Term → ℕ → Bool
closed_under = fold-Term (ℕ → Bool) closed_step

-- the term has no loose index
abbrev pub is_closed : Term → Bool
is_closed t = closed_under t 0

-- the term with `by` added to each index that points beyond the `k` innermost binders
abbrev pub lift_step : ℕ → Term-F (ℕ → Term) → ℕ → Term
lift_step by (Term-F.Bound i) k = roll-Term (Term-F.Bound (if nat_lt i k then i else i + by))
lift_step by (Term-F.Free n a) k = roll-Term (Term-F.Free n a)
lift_step by (Term-F.Con c) k = roll-Term (Term-F.Con c)
lift_step by (Term-F.App f x) k = roll-Term (Term-F.App (f k) (x k))
lift_step by (Term-F.Lam a b) k = roll-Term (Term-F.Lam a (b (k + 1)))

abbrev pub lift : ℕ → Term → ℕ → Term
lift by = fold-Term (ℕ → Term) (lift_step by)

-- index `k` becomes `u`, lifted over the `k` binders passed, and the greater ones fall by one
abbrev pub put_step : Term → Term-F (ℕ → Term) → ℕ → Term
put_step u (Term-F.Bound i) k = if nat_lt i k then roll-Term (Term-F.Bound i) else (if i == k then lift k u 0 else roll-Term (Term-F.Bound (i - 1)))
put_step u (Term-F.Free n a) k = roll-Term (Term-F.Free n a)
put_step u (Term-F.Con c) k = roll-Term (Term-F.Con c)
put_step u (Term-F.App f x) k = roll-Term (Term-F.App (f k) (x k))
put_step u (Term-F.Lam a b) k = roll-Term (Term-F.Lam a (b (k + 1)))

abbrev pub put : Term → Term → ℕ → Term
put u = fold-Term (ℕ → Term) (put_step u)

-- `t[u]`
abbrev pub instantiated : Term → Term → Term
instantiated t u = put u t 0

-- `Free n a` becomes the index of a binder that is put round the term
abbrev pub bind_step : ℕ → Ty → Term-F (ℕ → Term) → ℕ → Term
bind_step n a (Term-F.Bound i) k = roll-Term (Term-F.Bound (if nat_lt i k then i else i + 1))
bind_step n a (Term-F.Free m b) k = if m == n && is_ty b a then roll-Term (Term-F.Bound k) else roll-Term (Term-F.Free m b)
bind_step n a (Term-F.Con c) k = roll-Term (Term-F.Con c)
bind_step n a (Term-F.App f x) k = roll-Term (Term-F.App (f k) (x k))
bind_step n a (Term-F.Lam c b) k = roll-Term (Term-F.Lam c (b (k + 1)))

abbrev pub abstracted_at : ℕ → Ty → Term → ℕ → Term
abstracted_at n a = fold-Term (ℕ → Term) (bind_step n a)

-- the body of the lambda over the variable
abbrev pub abstracted : ℕ → Ty → Term → Term
abstracted n a t = abstracted_at n a t 0

-- each variable replaced at once; the terms put in have no loose index
abbrev pub put_free_step : (ℕ → Ty → Term) → Term-F Term → Term
put_free_step v (Term-F.Bound i) = roll-Term (Term-F.Bound i)
put_free_step v (Term-F.Free n a) = v n a
put_free_step v (Term-F.Con c) = roll-Term (Term-F.Con c)
put_free_step v (Term-F.App f x) = roll-Term (Term-F.App f x)
put_free_step v (Term-F.Lam a b) = roll-Term (Term-F.Lam a b)

abbrev pub put_free : (ℕ → Ty → Term) → Term → Term
put_free v = fold-Term Term (put_free_step v)

-- `u` for `Free n a`, and every other variable as it is
abbrev pub one_put : ℕ → Ty → Term → ℕ → Ty → Term
one_put n a u m b = if m == n && is_ty b a then u else roll-Term (Term-F.Free m b)

-- `Free n a` occurs
abbrev pub occurs_step : ℕ → Ty → Term-F Bool → Bool
occurs_step n a (Term-F.Bound i) = false
occurs_step n a (Term-F.Free m b) = m == n && is_ty b a
occurs_step n a (Term-F.Con c) = false
occurs_step n a (Term-F.App f x) = f || x
occurs_step n a (Term-F.Lam c b) = b

abbrev pub occurs : ℕ → Ty → Term → Bool
occurs n a = fold-Term Bool (occurs_step n a)
