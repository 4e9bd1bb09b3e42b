-- Names that differ, with one more.
use Rattle.std.proofs.Common.{◌≡◌, ℕ, ◌∙◌, true, false, IsTrue, List, [], ◌∷◌, ◌++◌, sym, refl}
use Rattle.std.specs.Prelude.{not}
use Rattle.std.specs.List.{list_any}
use Rattle.std.specs.Str.{bytes_eq}
use Rattle.std.proofs.lemmas.Bool.{or_parts, or_from, not-true, not_from_false, false_from_ne_true}
use Rattle.std.proofs.lemmas.Slice.Eq.{bytes_eq-Decides}
use Rattle.std.proofs.lemmas.List.Folds.{list_any-append}
use Rattle.hol_terms.proofs.Both.{both_true, and_true}
use Rattle.theory_reader.specs.Names.{distinct}

pub other_way : (a b : List ℕ) → bytes_eq a b ≡ false → bytes_eq b a ≡ false
other_way a b h = false_from_ne_true (bytes_eq b a) (λ e. let same : b ≡ a = (bytes_eq-Decides b a).0 e in let back : bytes_eq a b ≡ true = (bytes_eq-Decides a b).1 (sym same) in cc)

-- a name that no earlier one is
pub distinct_more : (names : List (List ℕ)) (n : List ℕ) → IsTrue (distinct names) → list_any (bytes_eq n) names ≡ false →
    IsTrue (distinct (names ++ n ∷ []))
distinct_more [] n h new = refl
distinct_more (m ∷ names) n h new =
    let both = both_true (not (list_any (bytes_eq m) names)) (distinct names) h in
    let parts = or_parts (bytes_eq n m) (list_any (bytes_eq n) names) new in
    let last = or_from (bytes_eq m n) false (other_way n m parts.0) refl in
    let none : list_any (bytes_eq m) (names ++ n ∷ []) ≡ false =
    list_any-append (bytes_eq m) names (n ∷ []) ∙ or_from (list_any (bytes_eq m) names) (list_any (bytes_eq m) (n ∷ [])) (not-true (list_any (bytes_eq m) names) both.0) last in
    and_true (not (list_any (bytes_eq m) (names ++ n ∷ []))) (distinct (names ++ n ∷ [])) (not_from_false (list_any (bytes_eq m) (names ++ n ∷ [])) none)
    (distinct_more names n both.1 parts.1)
