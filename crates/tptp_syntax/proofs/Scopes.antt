-- Lists that are kept the other way round: the last item is the front of the view.
use Rattle.std.proofs.Common.{◌≡◌, ℕ, ◌+◌, ◌≤◌, List, [], ◌∷◌, ◌++◌, length, map, take, sym, ap, ◌∙◌, arith, Some}
use Rattle.std.specs.Prelude.{reverse, slice_get}
use Rattle.std.proofs.lemmas.List.{reverse-append, take_all, take_more, map-append}
use Rattle.std.proofs.lemmas.Option.{slice_get_within, get_or_from_slice_get}

-- a list up to a place is what stands before it, and its item there
pub take_one_more : {X : Type 0} (xs : List X) (i : ℕ) (y : X) → slice_get xs i ≡ Some y → take (i + 1) xs ≡ take i xs ++ y ∷ []
take_one_more xs i y h = take_more xs i y (slice_get_within xs i y h) ∙ ap (λ z. take i xs ++ z ∷ []) (get_or_from_slice_get xs i y y h)

pub reverse_last : {X : Type 0} (xs : List X) (i : ℕ) (y : X) → slice_get xs i ≡ Some y → reverse (take (i + 1) xs) ≡ y ∷ reverse (take i xs)
reverse_last xs i y h = ap (λ l. reverse l) (take_one_more xs i y h) ∙ reverse-append (take i xs) (y ∷ [])

-- the last item of a list is the front of its view
pub last_first : {X : Type 0} (xs : List X) (i : ℕ) (y : X) → length xs ≡ i + 1 → slice_get xs i ≡ Some y → reverse xs ≡ y ∷ reverse (take i xs)
last_first xs i y len h = let all : length xs ≤ i + 1 = omega arith in ap (λ l. reverse l) (sym (take_all (i + 1) xs all)) ∙ reverse_last xs i y h

pub map_one_more : {X Y : Type 0} (f : X → Y) (xs : List X) (i : ℕ) (y : X) → slice_get xs i ≡ Some y → map f (take (i + 1) xs) ≡ map f (take i xs) ++ f y ∷ []
map_one_more f xs i y h = ap (λ l. map f l) (take_one_more xs i y h) ∙ map-append f (take i xs) (y ∷ [])
