-- A list with one item changed, built up item by item.
use Rattle.std.proofs.Common.{◌≡◌, ℕ, zero, suc, ◌+◌, ◌<◌, false, ◌==◌, if◌then◌else◌, List, [], ◌∷◌, ◌++◌, take, drop, length, get_or, refl, sym, ap, ◌∙◌, add-one, arith}
use Rattle.std.specs.Prelude.{slice_set}
use Rattle.fo_terms.proofs.Substitution.{equal_true, equal_from, unequal}
use Rattle.fo_terms.proofs.Renaming.{kept_test}
use Rattle.fo_infer.specs.Paths.{changed_at}

suc_equal : (x y : ℕ) → (suc x == suc y) ≡ (x == y)
suc_equal x y = kept_test ◌==◌ ◌==◌ equal_from equal_true equal_from equal_true suc x y (λ e. omega arith)

suc_zero : (x : ℕ) → (suc x == zero) ≡ false
suc_zero x = unequal (suc x) zero (λ e. absurd (omega arith))

zero_suc : (x : ℕ) → (zero == suc x) ≡ false
zero_suc x = unequal zero (suc x) (λ e. absurd (omega arith))

get_shown : {X : Type 0} (xs : List X) (k : ℕ) (x : X) → k < length xs → x ≡ get_or xs k x → take (suc k) xs ≡ take k xs ++ x ∷ []
get_shown [] k x within is = absurd (omega arith)
get_shown (y ∷ ys) zero x within is = λ i. sym is i ∷ []
get_shown (y ∷ ys) (suc k) x within is = let inside : k < length ys = omega arith in ap (λ l. y ∷ l) (get_shown ys k x inside is)

pub changed_next : {X : Type 0} (f : X → X) (place k : ℕ) (xs : List X) (x : X) → k < length xs → x ≡ get_or xs k x
    → take (suc k) (changed_at place f xs) ≡ take k (changed_at place f xs) ++ (if k == place then f x else x) ∷ []
changed_next f place k [] x within is = absurd (omega arith)
changed_next f zero zero (y ∷ ys) x within is = λ i. f (sym is i) ∷ []
changed_next f zero (suc k) (y ∷ ys) x within is =
    let inside : k < length ys = omega arith in
    ap (λ l. f y ∷ l) (get_shown ys k x inside is ∙ ap (λ b. take k ys ++ (if b then f x else x) ∷ []) (sym (suc_zero k)))
changed_next f (suc place) zero (y ∷ ys) x within is = (λ i. sym is i ∷ []) ∙ ap (λ b. (if b then f x else x) ∷ []) (sym (zero_suc place))
changed_next f (suc place) (suc k) (y ∷ ys) x within is =
    let inside : k < length ys = omega arith in
    ap (λ l. y ∷ l) (changed_next f place k ys x inside is ∙ ap (λ b. take k (changed_at place f ys) ++ (if b then f x else x) ∷ []) (sym (suc_equal k place)))

pub changed_more : {X : Type 0} (f : X → X) (place k : ℕ) (xs : List X) (x y : X) (now next : List X) → k < length xs → x ≡ get_or xs k x
    → now ≡ take k (changed_at place f xs) → y ≡ (if k == place then f x else x) → next ≡ now ++ y ∷ [] → next ≡ take (k + 1) (changed_at place f xs)
changed_more f place k xs x y now next within is so made pushed =
    rw add-one (pushed ∙ (λ i. so i ++ made i ∷ []) ∙ sym (changed_next f place k xs x within is))

pub changed_length : {X : Type 0} (f : X → X) (place : ℕ) (xs : List X) → length (changed_at place f xs) ≡ length xs
changed_length f place [] = refl
changed_length f zero (x ∷ xs) = refl
changed_length f (suc place) (x ∷ xs) = ap suc (changed_length f place xs)

pub set_parts : {X : Type 0} (xs : List X) (i : ℕ) (y : X) → i < length xs → slice_set xs i y ≡ take i xs ++ y ∷ drop (suc i) xs
set_parts [] i y within = absurd (omega arith)
set_parts (x ∷ xs) zero y within = refl
set_parts (x ∷ xs) (suc i) y within = let inside : i < length xs = omega arith in ap (λ l. x ∷ l) (set_parts xs i y inside)
