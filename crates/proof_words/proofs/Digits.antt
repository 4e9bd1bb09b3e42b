-- The fronts of a number's digits.
use Rattle.std.proofs.Common.{◌≡◌, inl, inr, ℕ, ◌+◌, ◌^◌, ◌/◌, ◌%◌, ◌<◌, ◌≤◌, List, [], ◌∷◌, ◌++◌, length, take, get_or, refl, sym, ap, subst, ◌∙◌, decimal, arith}
use Rattle.std.proofs.lemmas.Bool.{cases_lt}
use Rattle.std.proofs.lemmas.List.{take-append-le, take_all, length-take, length_push, same_from_push}
use Rattle.std.proofs.lemmas.Fmt.{decimal_by_steps, decimal_step, decimal_digit, decimal_nonempty, decimal_injective}
use Rattle.proof_words.specs.Sharing.{Shares, IsNumber}

-- a front of the digits of `m` writes a number no greater
abbrev Front : ℕ → List ℕ → ℕ → Type 0
Front m ds k = (n : ℕ) × (n ≤ m) × (take k ds ≡ decimal n)

abbrev Fronts : ℕ → List ℕ → Type 0
Fronts m ds = m < 2 ^ 64 → (ds ≡ decimal m) × ((k : ℕ) → 0 < k → k ≤ length ds → Front m ds k)

whole_front : (m : ℕ) (ds : List ℕ) (k : ℕ) → ds ≡ decimal m → length ds ≤ k → Front m ds k
whole_front m ds k is all = (m, omega arith, take_all k ds all ∙ is)

one_digit : (m : ℕ) → m < 10 → Fronts m ((48 + m) ∷ [])
one_digit m l low = let is = sym (decimal_digit m l) in (is, λ k some fits. whole_front m ((48 + m) ∷ []) k is (omega arith))

more_digits : (m : ℕ) (ds : List ℕ) → 10 ≤ m → Fronts (m / 10) ds → Fronts m (ds ++ (48 + m % 10) ∷ [])
more_digits m ds l h low =
    let less : m / 10 < 2 ^ 64 = omega arith in
    let inner = h less in
    let last = (48 + m % 10) ∷ [] in
    let is : ds ++ last ≡ decimal m = ap (λ xs. xs ++ last) inner.0 ∙ sym (decimal_step m l low) in (
      is,
      λ k some fits. elim (cases_lt (length ds) k) [
        | inl all ↦ whole_front m (ds ++ last) k is (omega (arith, length_push ds (48 + m % 10)))
        | inr part ↦ let front = inner.1 k some part in (front.0, (let le = front.1 in omega arith), take-append-le k ds last part ∙ front.2)
      ],
    )

front_of : (m : ℕ) → m < 2 ^ 64 → (k : ℕ) → 0 < k → k ≤ length (decimal m) → Front m (decimal m) k
front_of m low = (decimal_by_steps Fronts one_digit more_digits m low low).1

-- a word whose front is that of a number
same_length : (k : ℕ) (v w : List ℕ) → k ≤ length w → take k v ≡ take k w → k ≤ length v
same_length k v w fits same = let e = ap (λ xs. length xs) same in omega (arith, length-take k v, length-take k w)

pub number_front : (v w : List ℕ) (k : ℕ) → IsNumber v → 0 < k → k ≤ length w → take k v ≡ take k w → (n : ℕ) × (n < 2 ^ 64) × (take k w ≡ decimal n)
number_front v w k is some fits same =
    let long = same_length k v w fits same in
    let front = front_of is.0 is.1 k some (subst (λ ds. k ≤ length ds) is.2 long) in
    let less : front.0 < 2 ^ 64 = let le = front.1 in let low = is.1 in omega arith in
    (front.0, less, sym same ∙ ap (λ ds. take k ds) is.2 ∙ front.2)

-- a number of one digit
pub single : (n b : ℕ) → n < 2 ^ 64 → b ∷ [] ≡ decimal n → (n < 10) × (b ≡ 48 + n)
single n b low is = elim (cases_lt n 10) [
  | inl less ↦ let e = is ∙ decimal_digit n less in let same : b ≡ 48 + n = cc in (less, same)
  | inr more ↦
      let less : n / 10 < 2 ^ 64 = omega arith in
      let e = ap (λ xs. length xs) (is ∙ decimal_step n more low) in
      let some = decimal_nonempty (n / 10) less in
      absurd (omega (arith, length_push (decimal (n / 10)) (48 + n % 10)))
]

-- a number with one digit behind those of another
pub one_more : (n m b : ℕ) → n < 2 ^ 64 → m < 2 ^ 64 → decimal m ++ b ∷ [] ≡ decimal n → (10 ≤ n) × (m ≡ n / 10) × (b ≡ 48 + n % 10)
one_more n m b low fits is = elim (cases_lt n 10) [
  | inl less ↦
      let e = ap (λ xs. length xs) (is ∙ decimal_digit n less) in
      let some = decimal_nonempty m fits in
      absurd (omega (arith, length_push (decimal m) b))
  | inr more ↦
      let smaller : n / 10 < 2 ^ 64 = omega arith in
      let parts = same_from_push (decimal m) (decimal (n / 10)) b (48 + n % 10) (is ∙ decimal_step n more low) in
      (more, decimal_injective m (n / 10) fits smaller parts.0, parts.1)
]

-- ---- how far a word goes on as a number

pub begins_empty : Shares IsNumber [] 0
begins_empty = record {
  room = omega arith;
  some = inl refl;
  most = λ v is same.
      let e = ap (λ xs. length xs) same in
      let some = subst (λ ds. 0 < length ds) (sym is.2) (decimal_nonempty is.0 is.1) in
      omega (arith, length-take 1 v);
}

pub begins_other : (b : ℕ) (rest : List ℕ) → (48 ≤ b → b < 58 → ⊥) → Shares IsNumber (b ∷ rest) 0
begins_other b rest other = record {
  room = omega arith;
  some = inl refl;
  most = λ v is same.
      let front = number_front v (b ∷ rest) 1 is (omega arith) (omega arith) same in
      let digit = single front.0 b front.1 front.2 in
      let low = digit.0 in let byte = digit.1 in
      other (omega arith) (omega arith);
}

-- the number `m` and a byte with which no number goes on
pub begins_digits : (w : List ℕ) (at m b : ℕ) → 0 < at → at < length w → m < 2 ^ 64 → take at w ≡ decimal m → take (at + 1) w ≡ take at w ++ b ∷ [] →
    ((n : ℕ) → n < 2 ^ 64 → 10 ≤ n → m ≡ n / 10 → b ≡ 48 + n % 10 → ⊥) → Shares IsNumber w at
begins_digits w at m b some fits low digits next stop = record {
  room = omega arith;
  some = inr (take at w, (m, low, digits), take_all at (take at w) (omega (arith, length-take at w)));
  most = λ v is same.
      let front = number_front v w (at + 1) is (omega arith) (omega arith) same in
      let parts = one_more front.0 m b front.1 low (ap (λ ds. ds ++ b ∷ []) (sym digits) ∙ sym next ∙ front.2) in
      stop front.0 front.1 parts.0 parts.1 parts.2;
}

-- a zero alone, and a zero that leads
pub zero_alone : (w rest : List ℕ) → w ≡ 48 ∷ rest → length w ≡ 1 → w ≡ decimal 0
zero_alone w [] is one = is ∙ sym (decimal_digit 0 (omega arith))
zero_alone w (b ∷ rest) is one = absurd (let e = ap (λ xs. length xs) is in omega arith)

pub begins_zero : (w rest : List ℕ) → w ≡ 48 ∷ rest → (length w ≡ 1 → ⊥) → Shares IsNumber w 1
begins_zero w [] is more = absurd (more (ap (λ xs. length xs) is))
begins_zero w (b ∷ rest) is more =
    let zero_is = decimal_digit 0 (omega arith) in
    let fits : 1 < length w = let e = ap (λ xs. length xs) is in omega arith in
    begins_digits w 1 0 b (omega arith) fits (omega arith) (ap (λ xs. take 1 xs) is ∙ sym zero_is)
    (ap (λ xs. take 2 xs) is ∙ ap (λ xs. take 1 xs ++ b ∷ []) (sym is)) (λ n low ten front byte. omega arith)

-- the word has no first byte, or one that is no digit
pub begins_with : (w : List ℕ) (b : ℕ) → 0 < length w → b ≡ get_or w 0 b → (48 ≤ b → b < 58 → ⊥) → Shares IsNumber w 0
begins_with [] b some is other = absurd (omega arith)
begins_with (c ∷ w) b some is other = begins_other c w (λ low high. let same : b ≡ c = is in other (omega arith) (omega arith))

pub begins_none : (w : List ℕ) → length w ≤ 0 → Shares IsNumber w 0
begins_none [] none = begins_empty
begins_none (b ∷ w) none = absurd (omega arith)
