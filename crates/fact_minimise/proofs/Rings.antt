-- The facts in a row of a list whose first follows behind its last.
use Rattle.std.proofs.Common.{◌≡◌, ℕ, ◌+◌, ◌-◌, ◌<◌, ◌≤◌, Bool, true, false, List, [], ◌∷◌, ◌++◌, length, drop, get_or, refl, ap, ◌∙◌, arith, length-append, length-drop}
use Rattle.std.specs.Prelude.{Contains, nat_lt, if◌then◌else◌}
use Rattle.std.proofs.lemmas.Bool.Decides.{nat_tests}
use Rattle.std.proofs.lemmas.List.{length-take, take_more, get_or-take, get_or-drop, get_or_append_left, get_or-append-add}
use Rattle.fact_minimise.specs.Stages.{ring_part, place_of}

-- the fact at a place behind the first one of the row
ring-at : (xs : List ℕ) (from k : ℕ) → from ≤ length xs → k < length xs → get_or (xs ++ xs) (from + k) 0 ≡ get_or xs (place_of (length xs) from k) 0
ring-at xs from k first within =
    go (nat_lt from (length xs - k)) refl
  where
    go : (b : Bool) → nat_lt from (length xs - k) ≡ b → get_or (xs ++ xs) (from + k) 0 ≡ get_or xs (if b then from + k else from - (length xs - k)) 0
    go true e = get_or_append_left xs xs 0 (from + k) (grind (arith, nat_tests))
    go false e =
        let past : length xs - k ≤ from = grind (arith, nat_tests) in
        let split : from + k ≡ length xs + (from - (length xs - k)) = omega arith in
        ap (λ n. get_or (xs ++ xs) n 0) split ∙ get_or-append-add xs xs (from - (length xs - k)) 0

pub place-within : (n from k : ℕ) → from ≤ n → k < n → place_of n from k < n
place-within n from k first within = go (nat_lt from (n - k)) refl
  where
    go : (b : Bool) → nat_lt from (n - k) ≡ b → (if b then from + k else from - (n - k)) < n
    go true e = grind (arith, nat_tests)
    go false e = grind (arith, nat_tests)

-- one more fact of the row
pub ring-more : (xs : List ℕ) (from k : ℕ) → from ≤ length xs → k < length xs → ring_part xs from (k + 1) ≡ ring_part xs from k ++ get_or xs (place_of (length xs) from k) 0 ∷ []
ring-more xs from k first within =
    let long : k < length (drop from (xs ++ xs)) = omega (arith, length-drop from (xs ++ xs), length-append xs xs) in
    take_more (drop from (xs ++ xs)) k 0 long ∙ ap (λ x. ring_part xs from k ++ x ∷ []) (get_or-drop from (xs ++ xs) k 0 ∙ ring-at xs from k first within)

pub ring-length : (xs : List ℕ) (from k : ℕ) → length (ring_part xs from k) ≤ k
ring-length xs from k = omega (arith, length-take k (drop from (xs ++ xs)))

-- where in the row a place of the list is
turn-of : ℕ → ℕ → ℕ → ℕ
turn-of n from i = if nat_lt i from then n + i - from else i - from

-- the whole row has each fact
pub ring-all : (xs : List ℕ) (from fact : ℕ) → from ≤ length xs → Contains xs fact → Contains (ring_part xs from (length xs)) fact
ring-all xs from fact first (i, within, same) = go (nat_lt i from) refl
  where
    here : (j : ℕ) → j < length xs → get_or (xs ++ xs) (from + j) fact ≡ fact → Contains (ring_part xs from (length xs)) fact
    here j less at =
        let long : j < length (ring_part xs from (length xs)) = omega (arith, length-take (length xs) (drop from (xs ++ xs)), length-drop from (xs ++ xs), length-append xs xs) in
        (j, long, get_or-take (length xs) (drop from (xs ++ xs)) j fact less ∙ get_or-drop from (xs ++ xs) j fact ∙ at)

    go : (b : Bool) → nat_lt i from ≡ b → Contains (ring_part xs from (length xs)) fact
    go true e =
        let before : i < from = grind (arith, nat_tests) in
        let split : from + (length xs + i - from) ≡ length xs + i = omega arith in
        here (length xs + i - from) (omega arith) (ap (λ n. get_or (xs ++ xs) n fact) split ∙ get_or-append-add xs xs i fact ∙ same)
    go false e =
        let behind : from ≤ i = grind (arith, nat_tests) in
        let split : from + (i - from) ≡ i = omega arith in
        here (i - from) (omega arith) (ap (λ n. get_or (xs ++ xs) n fact) split ∙ get_or_append_left xs xs fact i within ∙ same)
