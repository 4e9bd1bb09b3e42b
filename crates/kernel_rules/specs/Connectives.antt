-- Terms made with the logical constants, and what they are made of.
use Rattle.std.specs.Prelude.{ℕ, Bool, true, false, if◌then◌else◌}
use Rattle.hol_terms.specs.declared.ty.Ty.{Ty}
use Rattle.hol_terms.specs.declared.konst.Konst.{Konst}
use Rattle.hol_terms.specs.declared.konst.Konst.TheVariants as konst
use Rattle.hol_terms.specs.declared.term.Term.{Term, roll-Term, out-Term}
use Rattle.hol_terms.specs.declared.term.Term.TheOpen.{Term-F}
use Rattle.hol_terms.specs.declared.term.Term.TheFolds.{fold-Term}
use Rattle.hol_terms.specs.Types.{bool_ty}
use Rattle.hol_terms.specs.Substitution.{instantiated, abstracted}

-- ---- making

abbrev pub constant : Konst → Term
constant k = roll-Term (Term-F.Con k)

abbrev pub apply : Term → Term → Term
apply f x = roll-Term (Term-F.App f x)

abbrev pub lambda : Ty → Term → Term
lambda a b = roll-Term (Term-F.Lam a b)

-- `\x. t` for a variable `x` that may occur in `t`
abbrev pub lambda_over : ℕ → Ty → Term → Term
lambda_over n a t = lambda a (abstracted n a t)

abbrev pub verum : Term
verum = constant konst.True

abbrev pub falsum : Term
falsum = constant konst.False

-- `~a`
abbrev pub neg : Term → Term
neg a = apply (constant konst.Not) a

-- `a & b`
abbrev pub conj : Term → Term → Term
conj a b = apply (apply (constant konst.And) a) b

-- `a | b`
abbrev pub disj : Term → Term → Term
disj a b = apply (apply (constant konst.Or) a) b

-- `a ==> b`
abbrev pub imp : Term → Term → Term
imp a b = apply (apply (constant konst.Imp) a) b

-- `s = t`, the sides of this type
abbrev pub equal : Ty → Term → Term → Term
equal a s t = apply (apply (constant (konst.Eq a)) s) t

-- every value of the type has the property
abbrev pub all : Ty → Term → Term
all a f = apply (constant (konst.All a)) f

-- some value of the type has the property
abbrev pub some : Ty → Term → Term
some a f = apply (constant (konst.Ex a)) f

-- a value that has the property where there is one
abbrev pub chosen : Ty → Term → Term
chosen a f = apply (constant (konst.Eps a)) f

-- ---- taking apart; where there is no such part, the term itself

abbrev pub right_at : Term → Term-F Term → Term
right_at t (Term-F.App f x) = x
right_at t _ = t

-- the argument of an application, which is the right side of an operator
unfoldable pub right_of : Term → Term
right_of t = right_at t (out-Term t)

abbrev pub function_at : Term → Term-F Term → Term
function_at t (Term-F.App f x) = f
function_at t _ = t

-- the function of an application
unfoldable pub function_of : Term → Term
function_of t = function_at t (out-Term t)

abbrev pub left_at : Term → Term-F Term → Term
left_at t (Term-F.App f x) = right_at t (out-Term f)
left_at t _ = t

-- the left side of an operator
unfoldable pub left_of : Term → Term
left_of t = left_at t (out-Term t)

abbrev pub konst_ty : Konst → Ty
konst_ty (konst.Eq a) = a
konst_ty (konst.All a) = a
konst_ty (konst.Ex a) = a
konst_ty (konst.Eps a) = a
konst_ty _ = bool_ty

abbrev pub head_ty_step : Term-F Ty → Ty
head_ty_step (Term-F.Bound i) = bool_ty
head_ty_step (Term-F.Free n a) = bool_ty
head_ty_step (Term-F.Con k) = konst_ty k
head_ty_step (Term-F.App f x) = f
head_ty_step (Term-F.Lam a b) = bool_ty

-- the type that the logical constant at the head carries: that of the sides, or of the bound variable
unfoldable pub head_ty : Term → Ty
head_ty = fold-Term Ty head_ty_step

abbrev pub body_at : Term → Term-F Term → Term
body_at t (Term-F.Lam a b) = b
body_at t _ = t

-- the body of a lambda
unfoldable pub body_of : Term → Term
body_of t = body_at t (out-Term t)

-- ---- telling apart

abbrev pub constant_at : (Konst → Bool) → Term-F Term → Bool
constant_at p (Term-F.Con k) = p k
constant_at p _ = false

abbrev pub one_at : (Konst → Bool) → Term-F Term → Bool
one_at p (Term-F.App f x) = constant_at p (out-Term f)
one_at p _ = false

abbrev pub two_at : (Konst → Bool) → Term-F Term → Bool
two_at p (Term-F.App f x) = one_at p (out-Term f)
two_at p _ = false

abbrev pub is_and : Konst → Bool
is_and konst.And = true
is_and _ = false

abbrev pub is_or : Konst → Bool
is_or konst.Or = true
is_or _ = false

abbrev pub is_implies : Konst → Bool
is_implies konst.Imp = true
is_implies _ = false

abbrev pub is_equals : Konst → Bool
is_equals (konst.Eq a) = true
is_equals _ = false

abbrev pub is_not : Konst → Bool
is_not konst.Not = true
is_not _ = false

abbrev pub is_every : Konst → Bool
is_every (konst.All a) = true
is_every _ = false

abbrev pub is_exists : Konst → Bool
is_exists (konst.Ex a) = true
is_exists _ = false

abbrev pub is_no : Konst → Bool
is_no konst.False = true
is_no _ = false

-- the term is `a & b`
unfoldable pub is_conj : Term → Bool
is_conj t = two_at is_and (out-Term t)

-- `a | b`
unfoldable pub is_disj : Term → Bool
is_disj t = two_at is_or (out-Term t)

-- `a ==> b`
unfoldable pub is_imp : Term → Bool
is_imp t = two_at is_implies (out-Term t)

-- `s = t`
unfoldable pub is_equal : Term → Bool
is_equal t = two_at is_equals (out-Term t)

-- `~a`
unfoldable pub is_neg : Term → Bool
is_neg t = one_at is_not (out-Term t)

-- every value of some type has a property
unfoldable pub is_all : Term → Bool
is_all t = one_at is_every (out-Term t)

-- some value of some type has a property
unfoldable pub is_some_of : Term → Bool
is_some_of t = one_at is_exists (out-Term t)

-- `false`
unfoldable pub is_falsum : Term → Bool
is_falsum t = constant_at is_no (out-Term t)

abbrev pub lambda_at : Term-F Term → Bool
lambda_at (Term-F.Lam a b) = true
lambda_at _ = false

-- a lambda
unfoldable pub is_lambda : Term → Bool
is_lambda t = lambda_at (out-Term t)

abbrev pub redex_at : Term-F Term → Bool
redex_at (Term-F.App f x) = lambda_at (out-Term f)
redex_at _ = false

-- a lambda applied to a term
unfoldable pub is_redex : Term → Bool
is_redex t = redex_at (out-Term t)

-- `f@t`: the body with `t` for the bound variable where `f` is a lambda, else `f` applied to `t`
unfoldable pub applied_to : Term → Term → Term
applied_to f t = if is_lambda f then instantiated (body_of f) t else apply f t

-- a lambda's application, with the argument put into the body
abbrev pub contracted : Term → Term
contracted t = applied_to (function_of t) (right_of t)
