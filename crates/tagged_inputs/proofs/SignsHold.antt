-- What holds of each sign of a list holds of each once they are put in order, each once.
use Rattle.std.proofs.Common.{◌≡◌, ℕ, zero, suc, Bool, true, false, if◌then◌else◌, List, [], ◌∷◌, ◌++◌, slice_get, Some, subst, refl}
use Rattle.std.specs.declared.cmp.Ordering.{Ordering}
use Rattle.std.specs.declared.cmp.Ordering.TheVariants.{Less, Equal, Greater}
use Rattle.std.specs.Ordering.{match_ordering}
use Rattle.std.specs.List.{list_any}
use Rattle.std.specs.BTreeSet.{replace_key}
use Rattle.indexmap.specs.IndexSet.{insert_key}
use Rattle.lambda_lift.specs.Standing.{Each}
use Rattle.fol_encode.specs.declared.sign.Sign.{Sign}
use Rattle.fol_encode.specs.Signs.{sign_cmp, in_order, is_sign, once}

module _ (Good : Sign → Type 0) where
  abbrev pub AllGood : List Sign → Type 0
  AllGood [] = Unit {0}
  AllGood (s ∷ ss) = Good s × AllGood ss

  pub good_append : (xs ys : List Sign) → AllGood xs → AllGood ys → AllGood (xs ++ ys)
  good_append [] ys hx hy = hy
  good_append (x ∷ xs) ys hx hy = (hx.0, good_append xs ys hx.1 hy)

  good_by : (t x : Sign) (xs : List Sign) (o : Ordering) → Good t → AllGood (x ∷ xs) → AllGood (replace_key sign_cmp xs t) → AllGood (match_ordering o (t ∷ x ∷ xs) (t ∷ xs) (x ∷ replace_key sign_cmp xs t))
  good_by t x xs Less ht h rest = (ht, h)
  good_by t x xs Equal ht h rest = (ht, h.1)
  good_by t x xs Greater ht h rest = (h.0, rest)

  good_replaced : (t : Sign) (xs : List Sign) → Good t → AllGood xs → AllGood (replace_key sign_cmp xs t)
  good_replaced t [] ht h = (ht, tt)
  good_replaced t (x ∷ xs) ht h = good_by t x xs (sign_cmp t x) ht h (good_replaced t xs ht h.1)

  good_ordered : (known ss : List Sign) → AllGood known → AllGood ss → AllGood (in_order known ss)
  good_ordered known [] hk hs = hk
  good_ordered known (t ∷ ss) hk hs = good_ordered (replace_key sign_cmp known t) ss (good_replaced t known hs.0 hk) hs.1

  good_inserted : (t : Sign) (known : List Sign) (b : Bool) → Good t → AllGood known → AllGood (if b then known else known ++ t ∷ [])
  good_inserted t known true ht h = h
  good_inserted t known false ht h = good_append known (t ∷ []) h (ht, tt)

  good_once : (known ss : List Sign) → AllGood known → AllGood ss → AllGood (once known ss)
  good_once known [] hk hs = hk
  good_once known (t ∷ ss) hk hs = good_once (insert_key is_sign known t) ss (good_inserted t known (list_any (is_sign t) known) hs.0 hk) hs.1

  pub good_all : (ss : List Sign) → AllGood ss → AllGood (once [] (in_order [] ss))
  good_all ss h = good_once [] (in_order [] ss) tt (good_ordered [] ss tt h)

  pub good_at : (ss : List Sign) → AllGood ss → Each Good ss
  good_at [] h i s e = cc
  good_at (t ∷ ss) h zero s e = let same : t ≡ s = cc in subst Good same h.0
  good_at (t ∷ ss) h (suc i) s e = good_at ss h.1 i s e
