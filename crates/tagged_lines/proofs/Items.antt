-- Items of lists.
use Rattle.std.proofs.Common.{◌≡◌, ℕ, zero, suc, Bool, true, false, ◌==◌, ◌||◌, if◌then◌else◌, List, [], ◌∷◌, ◌++◌, map, take, drop, refl, ap, subst, ◌∙◌, inl, inr, Some, slice_get}
use Rattle.std.specs.Prelude.{not, slice_set}
use Rattle.std.specs.List.{filter, list_any, remove}
use Rattle.std.proofs.lemmas.List.{map-append}
use Rattle.fo_terms.specs.Normal.{firsts}
use Rattle.fo_terms.proofs.Induction.{Each}
use Rattle.fo_terms.proofs.Substitution.{equal_true, equal_from}
use Rattle.fo_terms.proofs.Gathering.{any_filter}
use Rattle.fo_terms.proofs.Renaming.{each_map}
use Rattle.tagged_lines.specs.TypedLiterals.{IsIn}

-- ---- items that stand in lists

module _ {X Y : Type 0} (f : X → Y) where
  pub in_map : (xs : List X) (x : X) → IsIn xs x → IsIn (map f xs) (f x)
  in_map [] x h = absurd h
  in_map (y ∷ ys) x (inl e) = inl (ap f e)
  in_map (y ∷ ys) x (inr h) = inr (in_map ys x h)

  pub map_take : (n : ℕ) (xs : List X) → map f (take n xs) ≡ take n (map f xs)
  map_take zero xs = refl
  map_take (suc n) [] = refl
  map_take (suc n) (x ∷ xs) = ap (λ l. f x ∷ l) (map_take n xs)

  pub map_drop : (n : ℕ) (xs : List X) → map f (drop n xs) ≡ drop n (map f xs)
  map_drop zero xs = refl
  map_drop (suc n) [] = refl
  map_drop (suc n) (x ∷ xs) = map_drop n xs

  pub map_remove : (xs : List X) (i : ℕ) → map f (remove xs i) ≡ remove (map f xs) i
  map_remove xs i = map-append f (take i xs) (drop (suc i) xs) ∙ (λ k. map_take i xs k ++ map_drop (suc i) xs k)

  pub map_set : (xs : List X) (i : ℕ) (x : X) → map f (slice_set xs i x) ≡ slice_set (map f xs) i (f x)
  map_set [] i x = refl
  map_set (y ∷ ys) zero x = refl
  map_set (y ∷ ys) (suc i) x = ap (λ l. f y ∷ l) (map_set ys i x)

  pub map_get : (xs : List X) (i : ℕ) (x : X) → slice_get xs i ≡ Some x → slice_get (map f xs) i ≡ Some (f x)
  map_get [] i x h = cc
  map_get (y ∷ ys) zero x h = let e : y ≡ x = cc in ap Some (ap f e)
  map_get (y ∷ ys) (suc i) x h = map_get ys i x h

module _ {X : Type 0} (p : X → Bool) where
  filter_step : (x y : X) (ys : List X) (test : Bool) → IsIn ys x → IsIn (if test then y ∷ ys else ys) x
  filter_step x y ys true h = inr h
  filter_step x y ys false h = h

  here_step : (x y : X) (ys : List X) (test : Bool) → test ≡ true → y ≡ x → IsIn (if test then y ∷ ys else ys) x
  here_step x y ys true t e = inl e
  here_step x y ys false t e = absurd (cc)

  pub in_filter : (xs : List X) (x : X) → IsIn xs x → p x ≡ true → IsIn (filter p xs) x
  in_filter [] x h t = absurd h
  in_filter (y ∷ ys) x (inl e) t = here_step x y (filter p ys) (p y) (ap p e ∙ t) e
  in_filter (y ∷ ys) x (inr h) t = filter_step x y (filter p ys) (p y) (in_filter ys x h t)

module _ {X : Type 0} (same : X → X → Bool) (sound : (x y : X) → same x y ≡ true → x ≡ y) where
  not_first : (y x : X) (ys : List X) (test : Bool) → same y x ≡ test → IsIn (firsts same ys) x → IsIn (y ∷ filter (λ z. not (same y z)) (firsts same ys)) x
  not_first y x ys true e h = inl (sound y x e)
  not_first y x ys false e h = inr (in_filter (λ z. not (same y z)) (firsts same ys) x h (ap not e))

  -- each item is equal to one that stays
  pub in_firsts : (xs : List X) (x : X) → IsIn xs x → IsIn (firsts same xs) x
  in_firsts [] x h = absurd h
  in_firsts (y ∷ ys) x (inl e) = inl e
  in_firsts (y ∷ ys) x (inr h) = not_first y x ys (same y x) refl (in_firsts ys x h)

-- ---- facts of each item

module _ {X : Type 0} (P : X → Type 0) where
  pub each_take : (n : ℕ) (xs : List X) → Each P xs → Each P (take n xs)
  each_take zero xs h = tt
  each_take (suc n) [] h = tt
  each_take (suc n) (x ∷ xs) h = (h.0, each_take n xs h.1)

  pub each_drop : (n : ℕ) (xs : List X) → Each P xs → Each P (drop n xs)
  each_drop zero xs h = h
  each_drop (suc n) [] h = tt
  each_drop (suc n) (x ∷ xs) h = each_drop n xs h.1

  pub each_get : (xs : List X) (i : ℕ) (x : X) → Each P xs → slice_get xs i ≡ Some x → P x
  each_get [] i x h is = absurd (cc)
  each_get (y ∷ ys) zero x h is = let e : y ≡ x = cc in subst P e h.0
  each_get (y ∷ ys) (suc i) x h is = each_get ys i x h.1 is

  pub each_set : (xs : List X) (i : ℕ) (x : X) → Each P xs → P x → Each P (slice_set xs i x)
  each_set [] i x h k = tt
  each_set (y ∷ ys) zero x h k = (k, h.1)
  each_set (y ∷ ys) (suc i) x h k = (h.0, each_set ys i x h.1 k)

  pub each_in : (xs : List X) → ((x : X) → IsIn xs x → P x) → Each P xs
  each_in [] f = tt
  each_in (x ∷ xs) f = (f x (inl refl), each_in xs (λ y h. f y (inr h)))

-- ---- numbers that are listed

abbrev pub Listed : List ℕ → ℕ → Type 0
Listed seen x = list_any (λ y. y == x) seen ≡ true

or_left : (a b : Bool) → a ≡ true → (a || b) ≡ true
or_left true b h = refl
or_left false b h = cc

or_right : (a b : Bool) → b ≡ true → (a || b) ≡ true
or_right true b h = refl
or_right false b h = h

pub each_listed : (xs : List ℕ) → Each (Listed xs) xs
each_listed [] = tt
each_listed (x ∷ xs) = (or_left (x == x) (list_any (λ y. y == x) xs) (equal_true x), each_map (Listed xs) (Listed (x ∷ xs)) xs (λ y h. or_right (x == y) (list_any (λ z. z == y) xs) h) (each_listed xs))

listed_step : (x z : ℕ) (seen : List ℕ) (test : Bool) → (x == z) ≡ test → Listed seen z → (test || list_any (λ y. y == z) (filter (λ y. not (x == y)) seen)) ≡ true
listed_step x z seen true e h = refl
listed_step x z seen false e h = any_filter ◌==◌ equal_from x z seen e ∙ h

-- each number is one of the first ones
pub firsts_listed : (xs : List ℕ) → Each (Listed (firsts ◌==◌ xs)) xs
firsts_listed [] = tt
firsts_listed (x ∷ xs) = (
  or_left (x == x) (list_any (λ y. y == x) (filter (λ y. not (x == y)) (firsts ◌==◌ xs))) (equal_true x),
  each_map (Listed (firsts ◌==◌ xs)) (Listed (firsts ◌==◌ (x ∷ xs))) xs (λ z h. listed_step x z (firsts ◌==◌ xs) (x == z) refl h) (firsts_listed xs),
)
