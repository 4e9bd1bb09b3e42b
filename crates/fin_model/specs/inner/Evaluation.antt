-- What the evaluation of a term under binders stands on, and what it answers.
use Rattle.std.specs.Prelude.{◌≡◌, ◌≢◌, ◌==◌, ◌∷◌, ◌<◌, ◌≤◌, ℕ, Bool, true, false, IsTrue, List, Option, Some, Result, Ok, Err}
use Rattle.hol_terms.specs.declared.ty.Ty.{Ty}
use Rattle.hol_terms.specs.declared.term.Term.{Term, roll-Term}
use Rattle.hol_terms.specs.declared.term.Term.TheOpen.{Term-F}
use Rattle.hol_terms.specs.declared.sig.Sig.{Sig}
use Rattle.hol_terms.specs.Typing.{type_in}
use Rattle.hol_terms.specs.Formulas.{aux_free}
use Rattle.model_truth.specs.declared.model.Model.{Model}
use Rattle.model_truth.specs.Sizes.{size}
use Rattle.model_truth.specs.Values.{Valuation, value_in, holds_at}
use Rattle.model_truth.specs.Truth.{AllWithin}
use Rattle.fin_model.specs.declared.fault.EvalFault.{EvalFault}
use Rattle.fin_model.specs.declared.fault.EvalFault.TheVariants.{TooBig, NoMemory}
use Rattle.fin_model.specs.declared.world.World.{World}
use Rattle.fin_model.specs.Fitting.{fits, greatest_size}
use Rattle.fin_model.specs.Limits.{product, greatest_product, measure, is_within}
use Rattle.fin_model.specs.Given.{given, IsGiven}
use Rattle.fin_model.specs.inner.Building.{high_digits}
use Rattle.fin_model.specs.inner.Seeking.{IsFirst}

abbrev pub sig_of : World → Sig
sig_of w = w.sig.now

abbrev pub model_of : World → Model
model_of w = w.model.now

abbrev pub valuation_of : World → Valuation
valuation_of w = given w.free.now

-- the term has a type under the binders, and all that occurs in it has a value of its type
pub record IsReady (w : World) (types : List Ty) (values : List ℕ) (t : Term) : Type 0 where
  pub fits : IsTrue (fits (sig_of w) (model_of w))
  pub typed : (a : Ty) × (type_in (sig_of w) t types ≡ Some a)
  pub clean : IsTrue (aux_free t)
  pub given : IsGiven (model_of w) (valuation_of w) t
  pub within : AllWithin (model_of w) types values
  pub few : product (model_of w) types ≤ greatest_product

-- the value of the term, which is within the limits
pub record IsWorth (w : World) (types : List Ty) (values : List ℕ) (t : Term) (n : ℕ) : Type 0 where
  pub value : n ≡ value_in (sig_of w) (model_of w) (valuation_of w) t types values
  pub within : is_within (sig_of w) (model_of w) t types ≡ true

abbrev pub Evaluates : World → List Ty → List ℕ → Term → Result ℕ EvalFault → Type 0
Evaluates w types values t (Ok n) = IsWorth w types values t n
Evaluates w types values t (Err TooBig) = is_within (sig_of w) (model_of w) t types ≡ false
Evaluates w types values t (Err NoMemory) = Unit {0}

abbrev pub index : ℕ → Term
index i = roll-Term (Term-F.Bound i)

abbrev pub variable : ℕ → Ty → Term
variable n a = roll-Term (Term-F.Free n a)

-- ---- sizes

abbrev pub IsSmallSize : ℕ → Result ℕ EvalFault → Type 0
IsSmallSize n (Ok k) = (k ≡ n) × (n ≤ greatest_size)
IsSmallSize n (Err TooBig) = greatest_size < n
IsSmallSize n (Err NoMemory) = ⊥

abbrev pub IsEntered : ℕ → Result ℕ EvalFault → Type 0
IsEntered n (Ok k) = (k ≡ n) × (n ≤ greatest_product)
IsEntered n (Err TooBig) = greatest_product < n
IsEntered n (Err NoMemory) = ⊥

-- the term's type
abbrev pub IsTyped : World → List Ty → Term → Result Ty EvalFault → Type 0
IsTyped w types t (Ok a) = type_in (sig_of w) t types ≡ Some a
IsTyped w types t (Err TooBig) = ⊥
IsTyped w types t (Err NoMemory) = Unit {0}

abbrev pub IsResult : Ty → Result Ty EvalFault → Type 0
IsResult a (Ok b) = b ≡ a
IsResult a (Err TooBig) = ⊥
IsResult a (Err NoMemory) = Unit {0}

-- the size of the term's type, which is small
pub record IsSize (w : World) (types : List Ty) (t : Term) (n : ℕ) : Type 0 where
  pub ty : Ty
  pub typed : type_in (sig_of w) t types ≡ Some ty
  pub size : n ≡ size (model_of w) ty
  pub small : n ≤ greatest_size

abbrev pub Sizes : World → List Ty → Term → Result ℕ EvalFault → Type 0
Sizes w types t (Ok n) = IsSize w types t n
Sizes w types t (Err TooBig) = (a : Ty) × ((type_in (sig_of w) t types ≡ Some a) × (greatest_size < size (model_of w) a))
Sizes w types t (Err NoMemory) = Unit {0}

-- the first value of the type `a` at which the property gives what is wanted; what is measured in the property is
-- within the limits
pub record IsSought (w : World) (types : List Ty) (values : List ℕ) (a : Ty) (t : Term) (wanted : Bool) (found : Option ℕ) : Type 0 where
  pub first : IsFirst (holds_at (model_of w) (value_in (sig_of w) (model_of w) (valuation_of w) t types values)) (size (model_of w) a) wanted found
  pub within : (measure (sig_of w) (model_of w) t).property types ≡ true

abbrev pub Seeks : World → List Ty → List ℕ → Ty → Term → Bool → Result (Option ℕ) EvalFault → Type 0
Seeks w types values a t wanted (Ok found) = IsSought w types values a t wanted found
Seeks w types values a t wanted (Err TooBig) = (measure (sig_of w) (model_of w) t).property types ≡ false
Seeks w types values a t wanted (Err NoMemory) = Unit {0}

-- ---- how far the loops have come

-- what a body is worth at a value of the bound variable
abbrev pub body_at : World → List Ty → List ℕ → Ty → Term → ℕ → ℕ
body_at w types values a b v = value_in (sig_of w) (model_of w) (valuation_of w) b (a ∷ types) (v ∷ values)

-- no value below `n` was the one that is sought
pub record Passed (w : World) (types : List Ty) (values : List ℕ) (a : Ty) (b : Term) (wanted : Bool) (n : ℕ) : Type 0 where
  pub none : (v : ℕ) → v < n → (body_at w types values a b v == 1) ≢ wanted
  pub within : 0 < n → is_within (sig_of w) (model_of w) b (a ∷ types) ≡ true

-- the `i` highest digits of the lambda's number
pub record BuiltTo (w : World) (types : List Ty) (values : List ℕ) (a : Ty) (b : Term) (base count i number : ℕ) : Type 0 where
  pub digits : number ≡ high_digits base count i (body_at w types values a b)
  pub within : 0 < i → is_within (sig_of w) (model_of w) b (a ∷ types) ≡ true
