-- What says of an auxiliary constant that it is its closed term.
use Rattle.std.specs.Prelude.{ℕ, true, List, [], ◌∷◌, length}
use Rattle.hol_terms.specs.declared.ty.Ty.{Ty, out-Ty}
use Rattle.hol_terms.specs.declared.ty.Ty.TheOpen.{Ty-F}
use Rattle.hol_terms.specs.declared.konst.Konst.{Konst}
use Rattle.hol_terms.specs.declared.konst.Konst.TheVariants as konst
use Rattle.hol_terms.specs.declared.term.Term.{Term, roll-Term, out-Term}
use Rattle.hol_terms.specs.declared.term.Term.TheOpen.{Term-F}
use Rattle.hol_terms.specs.declared.term.Term.TheFolds.{fold-Term}
use Rattle.lambda_lift.specs.declared.table.Aux.{Aux}
use Rattle.lambda_lift.specs.Closing.{variables, applied_to}
use Rattle.lambda_lift.specs.Walks.{with_two}

-- the types of the run of lambdas that a term begins with, the outermost first
abbrev pub run_step : Term-F (List Ty) → List Ty
run_step (Term-F.Bound i) = []
run_step (Term-F.Free n a) = []
run_step (Term-F.Con k) = []
run_step (Term-F.App f x) = []
run_step (Term-F.Lam a b) = a ∷ b

abbrev pub run : Term → List Ty
run = fold-Term (List Ty) run_step

-- the body of a lambda; another term itself
abbrev pub body_at : Term → Term-F Term → Term
body_at t (Term-F.Lam a b) = b
body_at t _ = t

abbrev pub behind : List Ty → Term → Term
behind [] t = t
behind (a ∷ types) t = behind types (body_at t (out-Term t))

-- the type of what a function gives; another type itself
abbrev pub result_at : Ty → Ty-F Ty → Ty
result_at a (Ty-F.Base n) = a
result_at a (Ty-F.Arrow b c) = c

abbrev pub result_ty : List Ty → Ty → Ty
result_ty [] a = a
result_ty (b ∷ types) a = result_ty types (result_at a (out-Ty a))

-- quantifiers over variables of these types, the outermost first
abbrev pub for_all : List Ty → Term → Term
for_all [] t = t
for_all (a ∷ types) t = roll-Term (Term-F.App (roll-Term (Term-F.Con (konst.All a))) (roll-Term (Term-F.Lam a (for_all types t))))

-- a constant applied to the variables of `n` binders, the outermost first
abbrev pub applied_to_all : Konst → ℕ → Term
applied_to_all k n = applied_to (roll-Term (Term-F.Con k)) (variables (λ v. true) n)

-- the constant, applied to a variable for each lambda that the closed term begins with, equals what stands behind these
abbrev pub equation : ℕ → Aux → Term
equation k e =
    for_all (run e.closed)
    (with_two (konst.Eq (result_ty (run e.closed) e.ty)) (applied_to_all (konst.Aux k) (length (run e.closed))) (behind (run e.closed) e.closed))
