-- Names and numbers are words.
use Rattle.std.proofs.Common.{◌≡◌, ℕ, zero, suc, ◌+◌, ◌/◌, ◌%◌, ◌<◌, ◌==◌, ◌&&◌, ◌||◌, nat_le, nat_lt, not, if◌then◌else◌, Bool, true, false, IsTrue, List, [], ◌∷◌, length, refl, subst, decimal, arith, rules}
use Rattle.std.specs.Char.{is_ascii_alphabetic}
use Rattle.std.specs.Fmt.{digits, digit_glyph, digits_onto}
use Rattle.std.specs.Int.{is_in_range}
use Rattle.std.specs.List.{list_any, list_all}
use Rattle.std.specs.Str.{bytes_eq}
use Rattle.hol_terms.proofs.Both.{both_true, and_true}
use Rattle.text_kit.specs.Tokens.{is_word_byte}
use Rattle.theory_reader.specs.Names.{is_word, is_name, reserved}

pub record IsWordy (w : List ℕ) : Type 0 where
  pub some : 0 < length w
  pub bytes : IsTrue (list_all is_word_byte w)

letter : (d u l s : Bool) → IsTrue (u || l) → IsTrue (((d || u) || l) || s)
letter true u l s h = refl
letter false true l s h = refl
letter false false true s h = refl
letter false false false s h = cc

word_wordy : (w : List ℕ) → IsTrue (is_word w) → IsWordy w
word_wordy [] h = cc
word_wordy (b ∷ bs) h =
    let outer = both_true (is_ascii_alphabetic b && list_all is_word_byte bs) (nat_le (length (b ∷ bs)) 64) h in
    let inner = both_true (is_ascii_alphabetic b) (list_all is_word_byte bs) outer.0 in
    record { some = omega arith; bytes = and_true (is_word_byte b) (list_all is_word_byte bs) (letter (is_in_range 48 57 b) (is_in_range 65 90 b) (is_in_range 97 122 b) (b == 95) inner.0) inner.1 }

pub name_wordy : (w : List ℕ) → IsTrue (is_name w) → IsWordy w
unfolding is_name
name_wordy w h = word_wordy w (both_true (is_word w) (not (list_any (bytes_eq w) reserved)) h).0

-- ---- numbers

digit_word : (d : ℕ) → d < 10 → IsTrue (is_word_byte (48 + d))
digit_word zero h = refl
digit_word (suc zero) h = refl
digit_word (suc (suc zero)) h = refl
digit_word (suc (suc (suc zero))) h = refl
digit_word (suc (suc (suc (suc zero)))) h = refl
digit_word (suc (suc (suc (suc (suc zero))))) h = refl
digit_word (suc (suc (suc (suc (suc (suc zero)))))) h = refl
digit_word (suc (suc (suc (suc (suc (suc (suc zero))))))) h = refl
digit_word (suc (suc (suc (suc (suc (suc (suc (suc zero)))))))) h = refl
digit_word (suc (suc (suc (suc (suc (suc (suc (suc (suc zero))))))))) h = refl
digit_word (suc (suc (suc (suc (suc (suc (suc (suc (suc (suc n)))))))))) h = absurd (omega arith)

glyph_wordy : (n : ℕ) (acc : List ℕ) → IsTrue (list_all is_word_byte acc) → IsWordy (digit_glyph false (n % 10) ∷ acc)
glyph_wordy n acc h =
    let less : n % 10 < 10 = omega arith in
    let small : nat_lt (n % 10) 10 ≡ true = search (rules, less) in
    let is : IsTrue (is_word_byte (digit_glyph false (n % 10))) = rw small (digit_word (n % 10) less) in
    record { some = omega arith; bytes = and_true (is_word_byte (digit_glyph false (n % 10))) (list_all is_word_byte acc) is h }

wordy_if : (b : Bool) (xs ys : List ℕ) → IsWordy xs → IsWordy ys → IsWordy (if b then xs else ys)
wordy_if true xs ys g h = g
wordy_if false xs ys g h = h

onto_wordy : (k n : ℕ) (acc : List ℕ) → IsWordy acc → IsWordy (digits_onto k 10 false n acc)
onto_wordy zero n acc h = h
onto_wordy (suc k) n acc h =
    let one = glyph_wordy n acc h.bytes in
    wordy_if (n / 10 == 0) (digit_glyph false (n % 10) ∷ acc) (digits_onto k 10 false (n / 10) (digit_glyph false (n % 10) ∷ acc)) one (onto_wordy k (n / 10) (digit_glyph false (n % 10) ∷ acc) one)

some_digits : (k n : ℕ) → IsWordy (digits_onto (suc k) 10 false n [])
some_digits k n =
    let one = glyph_wordy n [] refl in
    wordy_if (n / 10 == 0) (digit_glyph false (n % 10) ∷ []) (digits_onto k 10 false (n / 10) (digit_glyph false (n % 10) ∷ [])) one (onto_wordy k (n / 10) (digit_glyph false (n % 10) ∷ []) one)

all_digits : (n : ℕ) → digits_onto 64 10 false n [] ≡ decimal n
unfolding digits
all_digits n = refl

pub number_wordy : (n : ℕ) → IsWordy (decimal n)
number_wordy n = subst (λ ds. IsWordy ds) (all_digits n) (some_digits 63 n)
