-- Tables of names.
use Rattle.std.proofs.Common.{ℕ, ◌≡◌, ◌∙◌, ◌+◌, ◌<◌, Bool, true, false, List, [], ◌∷◌, ◌++◌, length, take, get_or, refl, sym, ap}
use Rattle.std.specs.Prelude.{◌||◌, Option, Some, None, is_some, option_map}
use Rattle.std.specs.List.{list_any, position}
use Rattle.std.specs.Str.{bytes_eq}
use Rattle.std.proofs.lemmas.List.{take_more}
use Rattle.std.proofs.lemmas.List.Folds.{list_any-append}
use Rattle.std.proofs.lemmas.Slice.Eq.{bytes_eq-Decides}
use Rattle.theory_terms.specs.Words.{place}
use Rattle.theory_terms.proofs.Places.{at_first, at_rest}
use Rattle.slot_work.specs.inner.Lookups.{is_named, FindsNames, AddsName}

is_some_map : {X Y : Type 0} (f : X → Y) (o : Option X) → is_some (option_map f o) ≡ is_some o
is_some_map f None = refl
is_some_map f (Some x) = refl

module _ {X : Type 0} (p : X → Bool) where
  step : (x : X) (xs : List X) (b : Bool) → p x ≡ b → is_some (position p xs) ≡ list_any p xs → is_some (position p (x ∷ xs)) ≡ (b || list_any p xs)
  step x xs true e rest = ap is_some (at_first p x xs e)
  step x xs false e rest = ap is_some (at_rest p x xs e) ∙ is_some_map (λ i. i + 1) (position p xs) ∙ rest

  -- a place is found exactly where an item passes
  some_position : (xs : List X) → is_some (position p xs) ≡ list_any p xs
  some_position [] = refl
  some_position (x ∷ xs) = step x xs (p x) refl (some_position xs)

pub placed : (names : List (List ℕ)) (name : List ℕ) → is_some (place name names) ≡ is_named names name
placed names name = some_position (bytes_eq name) names

or_false : (a : Bool) → (a || false) ≡ a
or_false true = refl
or_false false = refl

or_true : (a b : Bool) → a ≡ true → (a || b) ≡ true
or_true true b e = refl
or_true false b e = absurd cc

module _ (names : List (List ℕ)) (name : List ℕ) (there : is_named names name ≡ true) where
  again : (x : List ℕ) (b : Bool) → bytes_eq x name ≡ b → (is_named names x || (b || false)) ≡ is_named names x
  again x true e =
      let same : x ≡ name = (bytes_eq-Decides x name).0 e in
      let known : is_named names x ≡ true = ap (is_named names) same ∙ there in
      or_true (is_named names x) (true || false) known ∙ sym known
  again x false e = or_false (is_named names x)

  -- a name that is there already makes no difference
  pub adds_none : AddsName names names name
  adds_none x = sym (list_any-append (bytes_eq x) names (name ∷ []) ∙ again x (bytes_eq x name) refl)

-- the table has found the first names, and one more is added
pub finds_more : (names : List (List ℕ)) (i : ℕ) (w : List ℕ) (old new : List (List ℕ)) → i < length names → w ≡ get_or names i w →
    FindsNames (take i names) old → AddsName old new w → FindsNames (take (i + 1) names) new
finds_more names i w old new lt is found adds x =
    let longer : take (i + 1) names ≡ take i names ++ w ∷ [] = take_more names i w lt ∙ ap (λ y. take i names ++ y ∷ []) (sym is) in
    adds x ∙ list_any-append (bytes_eq x) old (w ∷ []) ∙ ap (λ b. b || list_any (bytes_eq x) (w ∷ [])) (found x)
    ∙ sym (list_any-append (bytes_eq x) (take i names) (w ∷ [])) ∙ sym (ap (λ names. is_named names x) longer)
