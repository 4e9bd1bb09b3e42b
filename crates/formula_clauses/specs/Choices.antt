-- The terms that are put for the variables of quantifiers.
use Rattle.std.specs.Prelude.{ℕ, ◌+◌, ◌-◌, nat_lt, if◌then◌else◌, List, [], ◌∷◌, slice_get, unwrap_or}
use Rattle.std.specs.Ordering.{nat_cmp}
use Rattle.std.specs.BTreeMap.{insert_entry}
use Rattle.hol_terms.specs.declared.ty.Ty.{Ty}
use Rattle.hol_terms.specs.declared.konst.Konst.TheVariants as konst
use Rattle.hol_terms.specs.declared.term.Term.{Term, roll-Term}
use Rattle.hol_terms.specs.declared.term.Term.TheOpen.{Term-F}
use Rattle.hol_terms.specs.declared.term.Term.TheFolds.{fold-Term}
use Rattle.hol_terms.specs.Types.{function_ty}
use Rattle.kernel_rules.specs.Connectives.{constant, apply, lambda_over, chosen}
use Rattle.lambda_lift.specs.declared.table.Aux.{Aux}
use Rattle.lambda_lift.specs.Tables.{place, with_entry, expand}

-- the terms put for the variables of the binders around the term, the innermost first; the first of them stands for index `d`
abbrev pub put_in_step : List Term → Term-F (ℕ → Term) → ℕ → Term
put_in_step e (Term-F.Bound i) d = if nat_lt i d then roll-Term (Term-F.Bound i) else unwrap_or (slice_get e (i - d)) (roll-Term (Term-F.Bound i))
put_in_step e (Term-F.Free n a) d = roll-Term (Term-F.Free n a)
put_in_step e (Term-F.Con k) d = roll-Term (Term-F.Con k)
put_in_step e (Term-F.App f x) d = roll-Term (Term-F.App (f d) (x d))
put_in_step e (Term-F.Lam a b) d = roll-Term (Term-F.Lam a (b (d + 1)))

abbrev pub put_in : List Term → Term → ℕ → Term
put_in e = fold-Term (ℕ → Term) (put_in_step e)

-- a variable of a clause: its number and its type
abbrev pub Variable : Type 0
Variable = ℕ × Ty

-- the variables that occur in a term, ascending by number
abbrev pub variables_step : Term-F (List Variable → List Variable) → List Variable → List Variable
variables_step (Term-F.Bound i) vs = vs
variables_step (Term-F.Free n a) vs = insert_entry nat_cmp vs n a
variables_step (Term-F.Con k) vs = vs
variables_step (Term-F.App f x) vs = x (f vs)
variables_step (Term-F.Lam a b) vs = b vs

abbrev pub variables_with : Term → List Variable → List Variable
variables_with = fold-Term (List Variable → List Variable) variables_step

abbrev pub variables : Term → List Variable
variables t = variables_with t []

-- `\x1..xn. t`, the first variable outermost
abbrev pub closed_over : List Variable → Term → Term
closed_over [] t = t
closed_over (v ∷ vs) t = lambda_over v.0 v.1 (closed_over vs t)

-- the type of `\x1..xn. t`, by that of t
abbrev pub closed_ty : List Variable → Ty → Ty
closed_ty [] a = a
closed_ty (v ∷ vs) a = function_ty v.1 (closed_ty vs a)

-- `f x1 .. xn`
abbrev pub applied_to : Term → List Variable → Term
applied_to f [] = f
applied_to f (v ∷ vs) = applied_to (apply f (roll-Term (Term-F.Free v.0 v.1))) vs

-- the closed term of a value of type `a` that has the property `f`, over the property's variables, with no auxiliary constant
abbrev pub choice : List Aux → Ty → Term → Term
choice table a f = closed_over (variables f) (chosen a (expand table f))

-- the auxiliary constant of that closed term, applied to the property's variables
abbrev pub chosen_term : List Aux → Ty → Term → Term
chosen_term table a f = applied_to (constant (konst.Aux (place table (choice table a f)))) (variables f)

-- the table with that closed term in it
abbrev pub with_choice : List Aux → Ty → Term → List Aux
with_choice table a f = with_entry table (closed_ty (variables f) a) (choice table a f)
