-- The value of a term in a model.
use Rattle.std.specs.Prelude.{ℕ, Bool, true, false, ◌&&◌, ◌||◌, ◌==◌, List, [], ◌∷◌, slice_get, Option, Some, None}
use Rattle.hol_terms.specs.declared.ty.Ty.{Ty}
use Rattle.hol_terms.specs.declared.konst.Konst.{Konst}
use Rattle.hol_terms.specs.declared.konst.Konst.TheVariants as konst
use Rattle.hol_terms.specs.declared.sig.Sig.{Sig}
use Rattle.hol_terms.specs.declared.term.Term.{Term, roll-Term}
use Rattle.hol_terms.specs.declared.term.Term.TheOpen.{Term-F}
use Rattle.hol_terms.specs.declared.term.Term.TheFolds.{fold-Term}
use Rattle.hol_terms.specs.Types.{bool_ty, function_ty}
use Rattle.hol_terms.specs.Typing.{type_in}
use Rattle.model_truth.specs.declared.model.Model.{Model}
use Rattle.model_truth.specs.Numbers.{number, digit, every_below, some_below, least_below}
use Rattle.model_truth.specs.Sizes.{or_else, size, const_value}

-- ---- functions and truth values

-- the value of a function from `a` to `b`: the number whose digit at each place, in base size of `b`, is the value there
abbrev pub function : Model → Ty → Ty → (ℕ → ℕ) → ℕ
function m a b f = number (size m b) (size m a) f

-- the value at `x` of the function `f` into `b`
abbrev pub at : Model → Ty → ℕ → ℕ → ℕ
at m b f x = digit (size m b) f x

abbrev pub truth : Bool → ℕ
truth true = 1
truth false = 0

-- the test that a function into bool makes
abbrev pub holds_at : Model → ℕ → ℕ → Bool
holds_at m f x = at m bool_ty f x == 1

-- ---- constants

-- the value of a function of two arguments
abbrev pub function2 : Model → Ty → Ty → Ty → (ℕ → ℕ → ℕ) → ℕ
function2 m a b c f = function m a (function_ty b c) (λ x. function m b c (f x))

-- the value of a connective of two sides
abbrev pub connective : Model → (Bool → Bool → Bool) → ℕ
connective m f = function2 m bool_ty bool_ty bool_ty (λ x y. truth (f (x == 1) (y == 1)))

-- the value of what takes a property of the values of `a`
abbrev pub of_property : Model → Ty → Ty → ((ℕ → Bool) → ℕ) → ℕ
of_property m a b g = function m (function_ty a bool_ty) b (λ f. g (holds_at m f))

abbrev pub implies : Bool → Bool → Bool
implies true y = y
implies false y = true

abbrev pub negation : Bool → Bool
negation true = false
negation false = true

-- `Eps` gives the least value that has the property, 0 where none has. No theorem holds an auxiliary constant.
abbrev pub konst_value : Model → Konst → ℕ
konst_value m (konst.Named k) = const_value m k
konst_value m (konst.Aux k) = 0
konst_value m konst.True = truth true
konst_value m konst.False = truth false
konst_value m konst.Not = function m bool_ty bool_ty (λ x. truth (negation (x == 1)))
konst_value m konst.And = connective m (λ x y. x && y)
konst_value m konst.Or = connective m (λ x y. x || y)
konst_value m konst.Imp = connective m implies
konst_value m (konst.Eq a) = function2 m a a bool_ty (λ x y. truth (x == y))
konst_value m (konst.All a) = of_property m a bool_ty (λ p. truth (every_below (size m a) p))
konst_value m (konst.Ex a) = of_property m a bool_ty (λ p. truth (some_below (size m a) p))
konst_value m (konst.Eps a) = of_property m a a (λ p. least_below (size m a) p)

-- ---- terms

-- the value of each free variable, by its number and its type
abbrev pub Valuation : Type 0
Valuation = ℕ → Ty → ℕ

-- what a term is worth under binders: their types, and the values of their variables, both with the innermost first
abbrev pub Value : Type 0
Value = List Ty → List ℕ → ℕ

-- with the type of a term; what has none is worth 0
abbrev pub typed : Option Ty → (Ty → ℕ) → ℕ
typed None g = 0
typed (Some a) g = g a

-- each part comes as itself and as its value
abbrev pub value_step : Sig → Model → Valuation → Term-F (Term × Value) → Value
value_step sig m v (Term-F.Bound i) types values = or_else 0 (slice_get values i)
value_step sig m v (Term-F.Free n a) types values = v n a
value_step sig m v (Term-F.Con k) types values = konst_value m k
value_step sig m v (Term-F.App f x) types values = typed (type_in sig (roll-Term (Term-F.App f.0 x.0)) types) (λ b. at m b (f.1 types values) (x.1 types values))
value_step sig m v (Term-F.Lam a t) types values = typed (type_in sig t.0 (a ∷ types)) (λ b. function m a b (λ x. t.1 (a ∷ types) (x ∷ values)))

abbrev pub itself : Term-F (Term × Value) → Term
itself (Term-F.Bound i) = roll-Term (Term-F.Bound i)
itself (Term-F.Free n a) = roll-Term (Term-F.Free n a)
itself (Term-F.Con k) = roll-Term (Term-F.Con k)
itself (Term-F.App f x) = roll-Term (Term-F.App f.0 x.0)
itself (Term-F.Lam a t) = roll-Term (Term-F.Lam a t.0)

abbrev pub meaning : Sig → Model → Valuation → Term → Term × Value
meaning sig m v = fold-Term (Term × Value) (λ y. (itself y, value_step sig m v y))

-- the value of a term under binders
abbrev pub value_in : Sig → Model → Valuation → Term → Value
value_in sig m v t = (meaning sig m v t).1

-- the value of a term that stands alone
abbrev pub value_of : Sig → Model → Valuation → Term → ℕ
value_of sig m v t = value_in sig m v t [] []
