-- The numbers of logical constants that stand alone.
use Rattle.std.proofs.Common.{◌≡◌, ℕ, ◌^◌, ◌<◌, Bool, true, false, ◌&&◌, ◌||◌, ◌==◌, sym, subst, arith}
use Rattle.std.proofs.lemmas.Nat.{pow_pos}
use Rattle.hol_terms.specs.declared.ty.Ty.{Ty}
use Rattle.hol_terms.specs.declared.konst.Konst.{Konst}
use Rattle.hol_terms.specs.declared.konst.Konst.TheVariants as konst
use Rattle.model_truth.specs.declared.model.Model.{Model}
use Rattle.model_truth.specs.Numbers.{number}
use Rattle.model_truth.specs.Sizes.{size}
use Rattle.model_truth.specs.Values.{truth, implies, holds_at}
use Rattle.model_truth.proofs.Digits.{number_below, least_within}
use Rattle.fin_model.specs.inner.Constants.{two_of, one_of}

truth_small : (b : Bool) → truth b < 2
truth_small true = omega arith
truth_small false = omega arith

pub two_below : (k : Konst) (x y : ℕ) → two_of k x y < 2
two_below konst.And x y = truth_small (x == 1 && y == 1)
two_below konst.Or x y = truth_small (x == 1 || y == 1)
two_below konst.Imp x y = truth_small (implies (x == 1) (y == 1))
two_below (konst.Eq a) x y = truth_small (x == y)
two_below (konst.Named i) x y = omega arith
two_below (konst.Aux i) x y = omega arith
two_below konst.True x y = omega arith
two_below konst.False x y = omega arith
two_below konst.Not x y = omega arith
two_below (konst.All a) x y = omega arith
two_below (konst.Ex a) x y = omega arith
two_below (konst.Eps a) x y = omega arith

pub row_below : (k : Konst) (count x rows : ℕ) → rows ≡ 2 ^ count → number 2 count (two_of k x) < rows
row_below k count x rows e = subst (λ z. number 2 count (two_of k x) < z) (sym e) (number_below 2 count (two_of k x) (λ y _. two_below k x y))

pub rows_some : (rows count : ℕ) → rows ≡ 2 ^ count → 0 < rows
rows_some rows count e = subst (λ z. 0 < z) (sym e) (pow_pos count)

pub eps_below : (m : Model) (k : Konst) (a : Ty) (x : ℕ) → k ≡ konst.Eps a → 0 < size m a → one_of m k x < size m a
eps_below m k a x e h = subst (λ z. one_of m z x < size m a) (sym e) (least_within (size m a) (holds_at m x) h)
