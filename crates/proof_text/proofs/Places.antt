-- Where a declared name is found among its like.
use Rattle.std.proofs.Common.{◌≡◌, ℕ, zero, suc, ◌+◌, ◌<◌, not, cond, Bool, true, false, IsTrue, List, [], ◌∷◌, length, slice_get, Some, refl, sym, ap, ◌∙◌, arith}
use Rattle.std.specs.List.{list_any, list_all, position_from}
use Rattle.std.specs.Str.{bytes_eq}
use Rattle.std.proofs.lemmas.Iterator.Adapters.{position_from-zero}
use Rattle.std.proofs.lemmas.Option.{slice_get-get_or, unwrap_or-slice_get}
use Rattle.hol_terms.proofs.Both.{both_true, both_false}
use Rattle.theory_terms.specs.Words.{place}
use Rattle.theory_reader.specs.Names.{is_name, distinct}
use Rattle.theory_reader.proofs.Passes.{passes_at}
use Rattle.proof_syntax.specs.Names.{name_in}
use Rattle.proof_syntax.proofs.Numbers.{eq_true, eq_false}
use Rattle.proof_text.proofs.Wordy.{IsWordy, name_wordy}

not_true : (b : Bool) → IsTrue (not b) → b ≡ false
not_true true h = cc
not_true false h = refl

none_same : (x w : List ℕ) (xs : List (List ℕ)) (i : ℕ) → list_any (bytes_eq x) xs ≡ false → slice_get xs i ≡ Some w → x ≡ w → ⊥
none_same x w [] i h e same = cc
none_same x w (y ∷ xs) zero h e same =
    let is : y ≡ w = cc in
    let no = (both_false (bytes_eq x y) (list_any (bytes_eq x) xs) h).0 in
    let yes = eq_true x y (same ∙ sym is) in
    cc
none_same x w (y ∷ xs) (suc i) h e same = none_same x w xs i (both_false (bytes_eq x y) (list_any (bytes_eq x) xs) h).1 e same

found_from : (w : List ℕ) (xs : List (List ℕ)) (j i : ℕ) → IsTrue (distinct xs) → slice_get xs i ≡ Some w → position_from (bytes_eq w) j xs ≡ Some (j + i)
found_from w [] j i h e = cc
found_from w (x ∷ xs) j zero h e =
    let is : x ≡ w = cc in
    let yes = eq_true w x (sym is) in
    let same : j ≡ j + 0 = omega arith in
    ap (λ b. cond b (Some j) (position_from (bytes_eq w) (j + 1) xs)) yes ∙ ap (λ n. Some n) same
found_from w (x ∷ xs) j (suc i) h e =
    let both = both_true (not (list_any (bytes_eq x) xs)) (distinct xs) h in
    let no = eq_false w x (λ s. none_same x w xs i (not_true (list_any (bytes_eq x) xs) both.0) e (sym s)) in
    let same : j + 1 + i ≡ j + suc i = omega arith in
    ap (λ b. cond b (Some j) (position_from (bytes_eq w) (j + 1) xs)) no ∙ found_from w xs (j + 1) i both.1 e ∙ ap (λ n. Some n) same

-- the name of this number is a word, and the number is that of the name
pub record IsDeclared (names : List (List ℕ)) (n : ℕ) : Type 0 where
  pub wordy : IsWordy (name_in names n)
  pub found : place (name_in names n) names ≡ Some n

pub at_place : (names : List (List ℕ)) (n : ℕ) → n < length names → slice_get names n ≡ Some (name_in names n)
at_place names n h = slice_get-get_or names n [] h ∙ ap (λ x. Some x) (sym (unwrap_or-slice_get names n []))

-- names that differ
pub found_at : (names : List (List ℕ)) (n : ℕ) → IsTrue (distinct names) → n < length names → place (name_in names n) names ≡ Some n
found_at names n h l =
    let w = name_in names n in
    let zeroth : 0 + n ≡ n = omega arith in
    position_from-zero (bytes_eq w) names ∙ found_from w names 0 n h (at_place names n l) ∙ ap (λ m. Some m) zeroth

pub declared_at : (names : List (List ℕ)) (n : ℕ) → IsTrue (list_all is_name names) → IsTrue (distinct names) → n < length names → IsDeclared names n
declared_at names n are h l =
    record { wordy = name_wordy (name_in names n) (passes_at is_name names n (name_in names n) are (at_place names n l)); found = found_at names n h l }
