-- The digits of a number write it, and nothing else does.
use Rattle.std.proofs.Common.{◌≡◌, ℕ, zero, suc, ◌+◌, ◌-◌, ◌*◌, ◌^◌, ◌/◌, ◌%◌, ◌<◌, ◌==◌, ◌&&◌, nat_lt, if◌then◌else◌, Bool, true, false, List, [], ◌∷◌, ◌++◌, codes, Option, Some, None, refl, sym, ap, subst, ◌∙◌, decimal, arith, rules}
use Rattle.std.specs.Str.{bytes_eq}
use Rattle.std.proofs.lemmas.Slice.Eq.{bytes_eq-Decides}
use Rattle.std.proofs.lemmas.Fmt.{decimal_by_steps}
use Rattle.std.specs.Fmt.{digits, digit_glyph, digits_onto}
use Rattle.proof_syntax.specs.Machine.{value_from, number_in}

pub eq_true : (a b : List ℕ) → a ≡ b → bytes_eq a b ≡ true
eq_true a b h = (bytes_eq-Decides a b).1 h

pub eq_same : (a b : List ℕ) → bytes_eq a b ≡ true → a ≡ b
eq_same a b h = (bytes_eq-Decides a b).0 h

value_append : (n : ℕ) (ds : List ℕ) (d : ℕ) → value_from n (ds ++ d ∷ []) ≡ 10 * value_from n ds + (d - 48)
value_append n [] d = refl
value_append n (b ∷ bs) d = value_append (10 * n + (b - 48)) bs d

pub value_back : (n : ℕ) → n < 2 ^ 64 → value_from 0 (decimal n) ≡ n
value_back = decimal_by_steps (λ m ds. value_from 0 ds ≡ m) (λ m l. omega arith) (λ m ds l h. value_append 0 ds (48 + m % 10) ∙ ap (λ v. 10 * v + (48 + m % 10 - 48)) h ∙ omega arith)

pub number_back : (n : ℕ) → n < 2 ^ 64 → number_in (decimal n) ≡ Some n
number_back n low =
    let value = value_back n low in
    let same = eq_true (decimal n) (decimal n) refl in
    let small : nat_lt n (2 ^ 64) ≡ true = search (rules, low) in
    rw (value, same, small) refl

only : (w : List ℕ) (v n : ℕ) (a b : Bool) → bytes_eq w (decimal v) ≡ a → nat_lt v (2 ^ 64) ≡ b → (if a && b then Some v else None) ≡ Some n → (n < 2 ^ 64) × (w ≡ decimal n)
only w v n true true e f h =
    let same : v ≡ n = cc in
    let low : v < 2 ^ 64 = search (rules, f) in
    (subst (λ m. m < 2 ^ 64) same low, eq_same w (decimal v) e ∙ ap (λ m. decimal m) same)
only w v n true false e f h = cc
only w v n false b e f h = cc

pub number_only : (w : List ℕ) (n : ℕ) → number_in w ≡ Some n → (n < 2 ^ 64) × (w ≡ decimal n)
number_only w n h = let v = value_from 0 w in only w v n (bytes_eq w (decimal v)) (nat_lt v (2 ^ 64)) refl refl h

none_of : (o : Option ℕ) → ((n : ℕ) → o ≡ Some n → ⊥) → o ≡ None
none_of None h = refl
none_of (Some n) h = absurd (h n refl)

-- a word that writes no number
pub no_number : (w : List ℕ) → ((n : ℕ) → n < 2 ^ 64 → w ≡ decimal n → ⊥) → number_in w ≡ None
no_number w h = none_of (number_in w) (λ n e. h n (number_only w n e).0 (number_only w n e).1)

-- ---- no number is written `end`

abbrev Low : List ℕ → Type 0
Low [] = Unit {0}
Low (b ∷ bs) = b < 58

low_digit : (n : ℕ) (acc : List ℕ) → Low (digit_glyph false (n % 10) ∷ acc)
low_digit n acc =
    let less : n % 10 < 10 = omega arith in
    let small : nat_lt (n % 10) 10 ≡ true = search (rules, less) in
    rw small (omega arith)

low_if : (b : Bool) (xs ys : List ℕ) → Low xs → Low ys → Low (if b then xs else ys)
low_if true xs ys g h = g
low_if false xs ys g h = h

low_onto : (k n : ℕ) (acc : List ℕ) → Low acc → Low (digits_onto k 10 false n acc)
low_onto zero n acc h = h
low_onto (suc k) n acc h =
    let glyph = digit_glyph false (n % 10) in
    low_if (n / 10 == 0) (glyph ∷ acc) (digits_onto k 10 false (n / 10) (glyph ∷ acc)) (low_digit n acc) (low_onto k (n / 10) (glyph ∷ acc) (low_digit n acc))

all_digits : (n : ℕ) → digits_onto 64 10 false n [] ≡ decimal n
unfolding digits
all_digits n = refl

no_end : (ds : List ℕ) → Low ds → codes "end" ≡ ds → ⊥
no_end ds h e = let low : Low (codes "end") = subst (λ xs. Low xs) (sym e) h in omega arith

other : (a b : List ℕ) (t : Bool) → bytes_eq a b ≡ t → (a ≡ b → ⊥) → t ≡ false
other a b true e n = absurd (n (eq_same a b e))
other a b false e n = refl

pub eq_false : (a b : List ℕ) → (a ≡ b → ⊥) → bytes_eq a b ≡ false
eq_false a b n = let t = bytes_eq a b in other a b t refl n

pub end_is_none : (n : ℕ) → bytes_eq (codes "end") (decimal n) ≡ false
end_is_none n = eq_false (codes "end") (decimal n) (no_end (decimal n) (subst (λ ds. Low ds) (all_digits n) (low_onto 64 n [] tt)))
