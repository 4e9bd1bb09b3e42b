-- Each word writes a number, or goes on as one so far and no further.
use Rattle.std.proofs.Common.{◌≡◌, ◌⊎◌, inl, inr, ℕ, ◌+◌, ◌-◌, ◌*◌, ◌^◌, ◌/◌, ◌%◌, ◌<◌, ◌≤◌, List, [], ◌∷◌, ◌++◌, length, take, refl, sym, ap, subst, ◌∙◌, decimal, append_assoc, append-nil, arith, length-append}
use Rattle.std.proofs.lemmas.Bool.{cases_lt}
use Rattle.std.proofs.lemmas.List.{take_at, length_push}
use Rattle.std.proofs.lemmas.Fmt.{decimal_step, decimal_digit}
use Rattle.proof_words.specs.Sharing.{Shares, IsNumber}
use Rattle.proof_words.proofs.Digits.{begins_empty, begins_other, begins_digits, zero_alone, begins_zero}

abbrev pub Settled : List ℕ → Type 0
Settled w = IsNumber w ⊎ ((n : ℕ) × Shares IsNumber w n)

-- the digits of `m`, and a byte with which no number goes on
stopped : (w front rest : List ℕ) (m b : ℕ) → w ≡ front ++ b ∷ rest → 0 < length front → m < 2 ^ 64 → front ≡ decimal m →
    ((n : ℕ) → n < 2 ^ 64 → 10 ≤ n → m ≡ n / 10 → b ≡ 48 + n % 10 → ⊥) → Settled w
stopped w front rest m b is some low digits stop =
    let here : take (length front) w ≡ front = ap (λ xs. take (length front) xs) is ∙ take_at front (b ∷ rest) (length front) refl in
    let longer : w ≡ (front ++ b ∷ []) ++ rest = is ∙ sym (append_assoc front (b ∷ []) rest) in
    let next : take (length front + 1) w ≡ front ++ b ∷ [] =
    ap (λ xs. take (length front + 1) xs) longer ∙ take_at (front ++ b ∷ []) rest (length front + 1) (omega (arith, length_push front b)) in
    let fits : length front < length w = let all = ap (λ xs. length xs) is in omega (arith, length-append front (b ∷ rest)) in
    inr (length front, begins_digits w (length front) m b some fits low (here ∙ digits) (next ∙ ap (λ xs. xs ++ b ∷ []) (sym here)) stop)

from_digits : (rest w front : List ℕ) (m : ℕ) → w ≡ front ++ rest → 0 < length front → 0 < m → m < 2 ^ 64 → front ≡ decimal m → Settled w
from_digits [] w front m is some positive low digits = inl (m, low, is ∙ append-nil front ∙ digits)
from_digits (b ∷ rest) w front m is some positive low digits = elim (cases_lt b 48) [
  | inl less ↦ stopped w front rest m b is some low digits (λ n small ten tens byte. omega arith)
  | inr digit ↦ elim (cases_lt b 58) [
    | inr more ↦ stopped w front rest m b is some low digits (λ n small ten tens byte. omega arith)
    | inl less ↦ elim (cases_lt (10 * m + (b - 48)) (2 ^ 64)) [
      | inr far ↦ stopped w front rest m b is some low digits (λ n small ten tens byte. omega arith)
      | inl fits ↦
          let n = 10 * m + (b - 48) in
          let tens : m ≡ n / 10 = omega arith in
          let byte : b ≡ 48 + n % 10 = omega arith in
          let whole : front ++ b ∷ [] ≡ decimal n =
          ap (λ xs. xs ++ b ∷ []) (digits ∙ ap (λ k. decimal k) tens) ∙ ap (λ c. decimal (n / 10) ++ c ∷ []) byte ∙ sym (decimal_step n (omega arith) fits) in
          from_digits rest w (front ++ b ∷ []) n (is ∙ sym (append_assoc front (b ∷ []) rest)) (omega (arith, length_push front b)) (omega arith) fits whole
    ]
  ]
]

zero_first : (rest : List ℕ) → Settled (48 ∷ rest)
zero_first [] = inl (0, omega arith, zero_alone (48 ∷ []) [] refl refl)
zero_first (b ∷ rest) = inr (1, begins_zero (48 ∷ b ∷ rest) (b ∷ rest) refl (λ one. omega arith))

pub settled : (w : List ℕ) → Settled w
settled [] = inr (0, begins_empty)
settled (b ∷ rest) = elim (cases_lt b 48) [
  | inl less ↦ inr (0, begins_other b rest (λ low high. omega arith))
  | inr digit ↦ elim (cases_lt b 58) [
    | inr more ↦ inr (0, begins_other b rest (λ low high. omega arith))
    | inl less ↦ elim (cases_lt b 49) [
      | inl zero_ ↦ let is : 48 ≡ b = omega arith in subst (λ c. Settled (c ∷ rest)) is (zero_first rest)
      | inr positive ↦
          let byte : b ≡ 48 + (b - 48) = omega arith in
          from_digits rest (b ∷ rest) (b ∷ []) (b - 48) refl (omega arith) (omega arith) (omega arith)
          (ap (λ c. c ∷ []) byte ∙ sym (decimal_digit (b - 48) (omega arith)))
    ]
  ]
]
