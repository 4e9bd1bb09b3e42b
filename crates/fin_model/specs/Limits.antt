-- What is measured when a term is evaluated, and when it is too big.
use Rattle.std.specs.Prelude.{ℕ, ◌*◌, Bool, true, false, ◌&&◌, nat_le, List, [], ◌∷◌, Option, Some, None}
use Rattle.hol_terms.specs.declared.ty.Ty.{Ty}
use Rattle.hol_terms.specs.declared.konst.Konst.{Konst}
use Rattle.hol_terms.specs.declared.konst.Konst.TheVariants as konst
use Rattle.hol_terms.specs.declared.sig.Sig.{Sig}
use Rattle.hol_terms.specs.declared.term.Term.{Term, roll-Term, out-Term}
use Rattle.hol_terms.specs.declared.term.Term.TheOpen.{Term-F}
use Rattle.hol_terms.specs.declared.term.Term.TheFolds.{fold-Term}
use Rattle.hol_terms.specs.Typing.{type_in}
use Rattle.model_truth.specs.declared.model.Model.{Model}
use Rattle.model_truth.specs.Sizes.{size}
use Rattle.fin_model.specs.Fitting.{greatest_size}

-- the greatest product of the sizes of the binders around a term
abbrev pub greatest_product : ℕ
greatest_product = 4096

-- the product of the types' sizes
abbrev pub product : Model → List Ty → ℕ
product m [] = 1
product m (a ∷ types) = product m types * size m a

abbrev pub is_small : Model → Ty → Bool
is_small m a = nat_le (size m a) greatest_size

abbrev pub is_small_type : Model → Option Ty → Bool
is_small_type m None = false
is_small_type m (Some a) = is_small m a

-- ---- logical constants with all their arguments

-- what an application puts to its argument: a quantifier or `Eps`; `not`; a constant of two arguments with the first
-- of them; or anything else
pub data Head : Type 0 where
  binder : Head
  one : Head
  two : Head
  other : Head

abbrev pub first_head : Konst → Head
first_head (konst.All a) = binder
first_head (konst.Ex a) = binder
first_head (konst.Eps a) = binder
first_head konst.Not = one
first_head _ = other

abbrev pub second_head : Konst → Head
second_head konst.And = two
second_head konst.Or = two
second_head konst.Imp = two
second_head (konst.Eq a) = two
second_head _ = other

abbrev pub inner_head : Term-F Term → Head
inner_head (Term-F.Con k) = second_head k
inner_head _ = other

abbrev pub head_at : Term-F Term → Head
head_at (Term-F.Con k) = first_head k
head_at (Term-F.App f x) = inner_head (out-Term f)
head_at _ = other

abbrev pub head_of : Term → Head
head_of f = head_at (out-Term f)

-- ---- measuring

-- of a term under binders of some types: whether all that is measured in it is within the limits
pub record Measure : Type 0 where
  -- the term itself
  pub term : Term
  -- where the term is measured
  pub alone : List Ty → Bool
  -- where it is the argument of a quantifier or of `Eps`
  pub property : List Ty → Bool
  -- of an application: where its argument is measured
  pub argument : List Ty → Bool

-- the measured term's type, and the binders around it
abbrev pub stays_small : Sig → Model → Term → List Ty → Bool
stays_small sig m t types = is_small_type m (type_in sig t types) && nat_le (product m types) greatest_product

abbrev pub parts_stay : Head → Measure → Measure → List Ty → Bool
parts_stay binder f x types = x.property types
parts_stay one f x types = x.alone types
parts_stay two f x types = f.argument types && x.alone types
parts_stay other f x types = f.alone types && x.alone types

-- a term without parts that are measured
abbrev pub leaf_measure : Sig → Model → Term → Measure
leaf_measure sig m t = record { term = t; alone = stays_small sig m t; property = stays_small sig m t; argument = λ types. true }

abbrev pub app_alone : Sig → Model → Measure → Measure → List Ty → Bool
app_alone sig m f x types = stays_small sig m (roll-Term (Term-F.App f.term x.term)) types && parts_stay (head_of f.term) f x types

-- a bound type and the body under it
abbrev pub body_stays : Model → Ty → Measure → List Ty → Bool
body_stays m a b types = is_small m a && b.alone (a ∷ types)

abbrev pub measure_step : Sig → Model → Term-F Measure → Measure
measure_step sig m (Term-F.Bound i) = leaf_measure sig m (roll-Term (Term-F.Bound i))
measure_step sig m (Term-F.Free n a) = leaf_measure sig m (roll-Term (Term-F.Free n a))
measure_step sig m (Term-F.Con k) = leaf_measure sig m (roll-Term (Term-F.Con k))
measure_step sig m (Term-F.App f x) =
    record { term = roll-Term (Term-F.App f.term x.term); alone = app_alone sig m f x; property = app_alone sig m f x; argument = x.alone }
measure_step sig m (Term-F.Lam a b) =
    record {
      term = roll-Term (Term-F.Lam a b.term);
      alone = λ types. stays_small sig m (roll-Term (Term-F.Lam a b.term)) types && body_stays m a b types;
      property = body_stays m a b;
      argument = λ types. true;
    }

abbrev pub measure : Sig → Model → Term → Measure
measure sig m = fold-Term Measure (measure_step sig m)

-- all that is measured in the term is within the limits
abbrev pub is_within : Sig → Model → Term → List Ty → Bool
is_within sig m t types = (measure sig m t).alone types
