-- The numbers in the names of new symbols: a table of them tells each, since at most as many are taken as there are names.
use Rattle.std.proofs.Common.{◌≡◌, ◌≢◌, ℕ, zero, suc, ◌+◌, ◌-◌, ◌<◌, ◌≤◌, ◌^◌, Bool, true, false, cond, not, ◌||◌, List, [], ◌∷◌, ◌++◌, length, get_or, refl, sym, ap, subst, ◌∙◌, ◌⊎◌, inl, inr, arith, length-append, append_assoc}
use Rattle.std.specs.Prelude.{Option, Some, None, slice_get, unwrap_or, codes, decimal}
use Rattle.std.specs.List.{filter, list_any}
use Rattle.std.specs.Str.{bytes_eq}
use Rattle.std.proofs.lemmas.List.{append_cancel_left, append-nil, get_or_append_left}
use Rattle.std.proofs.lemmas.List.Elements.{filter-append}
use Rattle.std.proofs.lemmas.List.Filters.{length-filter_both}
use Rattle.std.proofs.lemmas.Option.{slice_get_within, get_or_from_slice_get, slice_get-get_or}
use Rattle.std.proofs.lemmas.Fmt.{decimal_injective}
use Rattle.std.proofs.lemmas.Slice.Eq.{bytes_eq-Decides}
use Rattle.std.proofs.lemmas.Bool.{cases_lt}
use Rattle.tstp_print.specs.Names.{below, new_name, is_taken, free_numbers, new_number}
use Rattle.tstp_print.specs.inner.Tables.{NumbersNew}

-- ---- numbers below another

pub length-below : (n : ℕ) → length (below n) ≡ n
length-below zero = refl
length-below (suc n) = length-append (below n) (n ∷ []) ∙ (let e = length-below n in let one : length (n ∷ []) ≡ 1 = refl in omega arith)

-- one more number is filtered
more : (p : ℕ → Bool) (n : ℕ) → filter p (below (suc n)) ≡ filter p (below n) ++ filter p (n ∷ [])
more p n = filter-append p (below n) (n ∷ [])

longer : (p : ℕ → Bool) (m d n : ℕ) → n ≡ m + d → (rest : List ℕ) × (filter p (below n) ≡ filter p (below m) ++ rest)
longer p m zero n e = ([], ap (λ k. filter p (below k)) (let f : n ≡ m = omega arith in f) ∙ sym (append-nil (filter p (below m))))
longer p m (suc d) n e =
    let h = longer p m d (m + d) refl in (
      h.0 ++ filter p ((m + d) ∷ []),
      ap (λ k. filter p (below k)) (let f : n ≡ suc (m + d) = omega arith in f) ∙ more p (m + d) ∙ ap (λ l. l ++ filter p ((m + d) ∷ [])) h.1 ∙ append_assoc (filter p (below m)) h.0 (filter p ((m + d) ∷ [])),
    )

item_stays : (xs ys : List ℕ) (n x : ℕ) → slice_get xs n ≡ Some x → slice_get (xs ++ ys) n ≡ Some x
item_stays xs ys n x is =
    let within = slice_get_within xs n x is in
    slice_get-get_or (xs ++ ys) n x (omega (arith, length-append xs ys)) ∙ ap Some (get_or_append_left xs ys x n within ∙ get_or_from_slice_get xs n x x is)

-- the item of a longer list of them
pub stays : (p : ℕ → Bool) (m n i x : ℕ) → m ≤ n → slice_get (filter p (below m)) i ≡ Some x → slice_get (filter p (below n)) i ≡ Some x
stays p m n i x le is =
    let h = longer p m (n - m) n (omega arith) in
    ap (λ l. slice_get l i) h.1 ∙ item_stays (filter p (below m)) h.0 i x is

-- ---- at most as many are taken as there are names

new_name_one : (m n : ℕ) → m < 2 ^ 64 → n < 2 ^ 64 → new_name m ≡ new_name n → m ≡ n
new_name_one m n a b e = decimal_injective m n a b (append_cancel_left (codes "sk_") (decimal m) (decimal n) e)

single : (p : ℕ → Bool) (n : ℕ) (b : Bool) → p n ≡ b → length (filter p (n ∷ [])) ≡ cond b 1 0
single p n true e = ap (λ v. length (cond v (n ∷ []) [])) e
single p n false e = ap (λ v. length (cond v (n ∷ []) [])) e

grows : (p : ℕ → Bool) (n : ℕ) (b : Bool) → p n ≡ b → length (filter p (below (suc n))) ≡ length (filter p (below n)) + cond b 1 0
grows p n b e = ap length (more p n) ∙ length-append (filter p (below n)) (filter p (n ∷ [])) ∙ ap (λ k. length (filter p (below n)) + k) (single p n b e)

module _ (name : List ℕ) where
  abbrev has : ℕ → Bool
  has k = bytes_eq name (new_name k)

  -- the name takes none of the numbers below `n`, or one
  AtMostOne : ℕ → Type 0
  AtMostOne n = (length (filter has (below n)) ≡ 0) ⊎ ((length (filter has (below n)) ≡ 1) × ((k : ℕ) × (k < n) × (name ≡ new_name k)))

  one_by : (n : ℕ) (b : Bool) → has n ≡ b → suc n ≤ 2 ^ 64 → AtMostOne n → AtMostOne (suc n)
  unfolding AtMostOne
  one_by n true e small (inl none) = inr ((let g = grows has n true e in omega arith), (n, omega arith, (bytes_eq-Decides name (new_name n)).0 e))
  one_by n true e small (inr h) =
      absurd (let same : h.1.0 ≡ n = new_name_one h.1.0 n (omega (arith, h.1.1)) (omega arith) (sym h.1.2 ∙ (bytes_eq-Decides name (new_name n)).0 e) in let lt = h.1.1 in omega arith)
  one_by n false e small (inl none) = inl (let g = grows has n false e in omega arith)
  one_by n false e small (inr h) = inr ((let g = grows has n false e in let o = h.0 in omega arith), (h.1.0, (let lt = h.1.1 in omega arith), h.1.2))

  one : (n : ℕ) → n ≤ 2 ^ 64 → AtMostOne n
  unfolding AtMostOne
  one zero small = inl refl
  one (suc n) small = one_by n (has n) refl small (one n (omega arith))

  one_most_by : (n : ℕ) → AtMostOne n → length (filter has (below n)) ≤ 1
  unfolding AtMostOne
  one_most_by n (inl h) = omega arith
  one_most_by n (inr h) = let e = h.0 in omega arith

  pub one_most : (n : ℕ) → n ≤ 2 ^ 64 → length (filter has (below n)) ≤ 1
  one_most n small = one_most_by n (one n small)

none_pass : (xs : List ℕ) → length (filter (λ k. false) xs) ≡ 0
none_pass [] = refl
none_pass (x ∷ xs) = none_pass xs

module _ (p q : ℕ → Bool) where
  either_by : (x : ℕ) (xs : List ℕ) (a b : Bool) → p x ≡ a → q x ≡ b → length (filter (λ k. p k || q k) xs) ≤ length (filter p xs) + length (filter q xs) →
      length (cond (a || b) (x ∷ filter (λ k. p k || q k) xs) (filter (λ k. p k || q k) xs)) ≤ length (cond a (x ∷ filter p xs) (filter p xs)) + length (cond b (x ∷ filter q xs) (filter q xs))
  either_by x xs true true e f h = omega arith
  either_by x xs true false e f h = omega arith
  either_by x xs false true e f h = omega arith
  either_by x xs false false e f h = h

  either : (xs : List ℕ) → length (filter (λ k. p k || q k) xs) ≤ length (filter p xs) + length (filter q xs)
  either [] = omega arith
  either (x ∷ xs) = either_by x xs (p x) (q x) refl refl (either xs)

taken_most : (names : List (List ℕ)) (n : ℕ) → n ≤ 2 ^ 64 → length (filter (is_taken names) (below n)) ≤ length names
taken_most [] n small = let e = none_pass (below n) in omega arith
taken_most (name ∷ names) n small =
    let a = either (has name) (is_taken names) (below n) in
    let b = one_most name n small in
    let c = taken_most names n small in
    omega arith

pub fewer : (names : List (List ℕ)) (n : ℕ) → n ≤ 2 ^ 64 → n ≤ length (free_numbers names n) + length names
fewer names n small =
    let a = taken_most names n small in
    let b = length-filter_both (is_taken names) (λ k. not (is_taken names k)) (λ x. refl) (below n) in
    let c = length-below n in
    omega arith

tell_by : (names : List (List ℕ)) (m n k : ℕ) → (m < n + 1 + length names) ⊎ (n + 1 + length names ≤ m) → n + 1 + length names ≤ 2 ^ 64 → slice_get (free_numbers names m) n ≡ Some k → k ≡ new_number names n
tell_by names m n k (inl lt) small is =
    sym (ap (λ o. unwrap_or o 0) (stays (λ j. not (is_taken names j)) m (n + 1 + length names) n k (omega arith) is))
tell_by names m n k (inr le) small is =
    let long : n < length (free_numbers names (n + 1 + length names)) = let f = fewer names (n + 1 + length names) small in omega arith in
    let item : slice_get (free_numbers names (n + 1 + length names)) n ≡ Some (get_or (free_numbers names (n + 1 + length names)) n 0) = slice_get-get_or (free_numbers names (n + 1 + length names)) n 0 long in
    let there = stays (λ j. not (is_taken names j)) (n + 1 + length names) m n (get_or (free_numbers names (n + 1 + length names)) n 0) le item in
    let same : Some k ≡ Some (get_or (free_numbers names (n + 1 + length names)) n 0) = sym is ∙ there in
    let number : k ≡ get_or (free_numbers names (n + 1 + length names)) n 0 = cc in
    number ∙ sym (ap (λ o. unwrap_or o 0) item)

-- an item of a table of free numbers is the number of that new symbol
pub tells : (names : List (List ℕ)) (m n k : ℕ) → n + 1 + length names ≤ 2 ^ 64 → slice_get (free_numbers names m) n ≡ Some k → k ≡ new_number names n
tells names m n k = tell_by names m n k (cases_lt m (n + 1 + length names))

-- a table has at most as many as numbers were looked at
pub few : (names : List (List ℕ)) (m : ℕ) → length (free_numbers names m) ≤ m
few names m = let b = length-filter_both (is_taken names) (λ k. not (is_taken names k)) (λ x. refl) (below m) in let c = length-below m in omega arith

-- such a table has the numbers of new symbols
pub table : (names : List (List ℕ)) (m : ℕ) (out : List ℕ) → out ≡ free_numbers names m → length names ≤ 4294967295 → m ≤ 4294967295 → NumbersNew names out
table names m out e a b n k is =
    tells names m n k (let within = slice_get_within out n k is in let c = few names m in let d = ap length e in omega arith) (ap (λ l. slice_get l n) (sym e) ∙ is)
