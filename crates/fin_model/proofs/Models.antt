-- A model that fits is a model of the signature.
use Rattle.std.proofs.Common.{◌≡◌, ℕ, zero, suc, ◌<◌, Bool, true, ◌&&◌, ◌==◌, IsTrue, refl, ap, subst, List, [], ◌∷◌, length, slice_get, Some, None, nat_lt, nat_le}
use Rattle.std.specs.Prelude.{Option}
use Rattle.std.specs.List.{list_all}
use Rattle.std.proofs.lemmas.Bool.{eqb-true, ltb-true, leb-true}
use Rattle.hol_terms.specs.declared.ty.Ty.{Ty}
use Rattle.hol_terms.specs.declared.sig.Sig.{Sig}
use Rattle.hol_terms.specs.Types.{ty_fits, bool_ty}
use Rattle.hol_terms.proofs.Both.{both_true}
use Rattle.model_truth.specs.declared.model.Model.{Model}
use Rattle.model_truth.specs.Sizes.{or_else, size, IsModel}
use Rattle.model_truth.proofs.Sizing.{size_bool, size_positive}
use Rattle.fin_model.specs.Fitting.{is_size, is_value, are_values, fits}

pub each_of : {X : Type 0} (p : X → Bool) (xs : List X) (i : ℕ) (x : X) → list_all p xs ≡ true → slice_get xs i ≡ Some x → p x ≡ true
each_of p [] i x h e = cc
each_of p (y ∷ ys) zero x h e = let same : y ≡ x = cc in subst (λ z. p z ≡ true) same (both_true (p y) (list_all p ys) h).0
each_of p (y ∷ ys) (suc i) x h e = each_of p ys i x (both_true (p y) (list_all p ys) h).1 e

is_two : (o : Option ℕ) → (or_else 0 o == 2) ≡ true → o ≡ Some 2
is_two None h = cc
is_two (Some n) h = ap Some (eqb-true n 2 h)

same_length : (m : Model) (tys : List Ty) (values : List ℕ) → are_values m tys values ≡ true → length values ≡ length tys
same_length m [] [] h = refl
same_length m [] (n ∷ ns) h = cc
same_length m (a ∷ more) [] h = cc
same_length m (a ∷ more) (n ∷ ns) h = ap suc (same_length m more ns (both_true (is_value m a n) (are_values m more ns) h).1)

each_value : (m : Model) (tys : List Ty) (values : List ℕ) (k n : ℕ) (a : Ty) → are_values m tys values ≡ true → slice_get values k ≡ Some n → slice_get tys k ≡ Some a → n < size m a
each_value m [] values k n a h e f = cc
each_value m (b ∷ more) [] k n a h e f = cc
each_value m (b ∷ more) (x ∷ xs) zero n a h e f =
    let own = (both_true (nat_lt x (size m b)) (nat_lt x 65536) (both_true (is_value m b x) (are_values m more xs) h).0).0 in
    let same_ty : b ≡ a = cc in
    let same : x ≡ n = cc in
    subst (λ z. n < size m z) same_ty (subst (λ z. z < size m b) same (ltb-true x (size m b) own))
each_value m (b ∷ more) (x ∷ xs) (suc k) n a h e f = each_value m more xs k n a (both_true (is_value m b x) (are_values m more xs) h).1 e f

module _ (sig : Sig) (m : Model) (h : IsTrue (fits sig m)) where
  halves : IsTrue ((length m.sizes == sig.types) && ((or_else 0 (slice_get m.sizes 0) == 2) && list_all is_size m.sizes)) × IsTrue ((list_all (ty_fits (length m.sizes)) sig.consts && list_all (ty_fits (length m.sizes)) sig.aux) && are_values m sig.consts m.consts)
  halves =
      both_true ((length m.sizes == sig.types) && ((or_else 0 (slice_get m.sizes 0) == 2) && list_all is_size m.sizes))
      ((list_all (ty_fits (length m.sizes)) sig.consts && list_all (ty_fits (length m.sizes)) sig.aux) && are_values m sig.consts m.consts) h

  first : IsTrue (length m.sizes == sig.types) × IsTrue ((or_else 0 (slice_get m.sizes 0) == 2) && list_all is_size m.sizes)
  first = both_true (length m.sizes == sig.types) ((or_else 0 (slice_get m.sizes 0) == 2) && list_all is_size m.sizes) halves.0

  second : IsTrue (or_else 0 (slice_get m.sizes 0) == 2) × IsTrue (list_all is_size m.sizes)
  second = both_true (or_else 0 (slice_get m.sizes 0) == 2) (list_all is_size m.sizes) first.1

  third : IsTrue (are_values m sig.consts m.consts)
  third = (both_true (list_all (ty_fits (length m.sizes)) sig.consts && list_all (ty_fits (length m.sizes)) sig.aux) (are_values m sig.consts m.consts) halves.1).1

  pub fits_is_model : IsModel sig m
  fits_is_model =
      record {
        types = eqb-true (length m.sizes) sig.types first.0;
        bools = is_two (slice_get m.sizes 0) second.0;
        inhabited = λ a n e. leb-true 1 n (both_true (nat_le 1 n) (nat_le n 65536) (each_of is_size m.sizes a n second.1 e)).0;
        named = same_length m sig.consts m.consts third;
        typed = λ k n a e f. each_value m sig.consts m.consts k n a third e f;
      }

  pub fits_bools : size m bool_ty ≡ 2
  fits_bools = size_bool sig m fits_is_model

  pub fits_positive : (a : Ty) → 0 < size m a
  fits_positive a = size_positive sig m fits_is_model a
