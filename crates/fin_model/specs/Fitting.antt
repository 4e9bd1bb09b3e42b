-- The models that the calls take: those whose numbers are small enough to be kept.
use Rattle.std.specs.Prelude.{ℕ, Bool, true, false, ◌&&◌, ◌==◌, nat_lt, nat_le, if◌then◌else◌, List, [], ◌∷◌, length, slice_get, Option, Some, None}
use Rattle.std.specs.List.{list_all}
use Rattle.hol_terms.specs.declared.ty.Ty.{Ty}
use Rattle.hol_terms.specs.declared.sig.Sig.{Sig}
use Rattle.hol_terms.specs.Types.{ty_fits}
use Rattle.model_truth.specs.declared.model.Model.{Model}
use Rattle.model_truth.specs.Sizes.{or_else, size}

-- the greatest size of a type with which the calls reckon
abbrev pub greatest_size : ℕ
greatest_size = 65536

-- the size, where the calls reckon with it
abbrev pub kept_size : ℕ → Option ℕ
kept_size n = if nat_le n greatest_size then Some n else None

-- a base type has this many values
abbrev pub is_size : ℕ → Bool
is_size n = nat_le 1 n && nat_le n greatest_size

-- the number is a value of the type, and small
abbrev pub is_value : Model → Ty → ℕ → Bool
is_value m a n = nat_lt n (size m a) && nat_lt n greatest_size

-- as many numbers as types, each a value of its type
abbrev pub are_values : Model → List Ty → List ℕ → Bool
are_values m [] [] = true
are_values m [] (n ∷ ns) = false
are_values m (a ∷ more) [] = false
are_values m (a ∷ more) (n ∷ ns) = is_value m a n && are_values m more ns

-- the model has two truth values, a size for each base type of the signature, and a value for each named constant
abbrev pub fits : Sig → Model → Bool
fits sig m =
    ((length m.sizes == sig.types) && ((or_else 0 (slice_get m.sizes 0) == 2) && list_all is_size m.sizes))
    && ((list_all (ty_fits (length m.sizes)) sig.consts && list_all (ty_fits (length m.sizes)) sig.aux) && are_values m sig.consts m.consts)
