-- Lists that are gone through or built item by item.
use Rattle.std.proofs.Common.{◌≡◌, ℕ, zero, suc, ◌+◌, ◌<◌, Bool, true, false, ◌||◌, ◌&&◌, Some, List, [], ◌∷◌, ◌++◌, length, map, take, drop, get_or, set, slice_get, reverse, fold, refl, sym, ap, ◌∙◌, arith}
use Rattle.std.specs.List.{list_any}
use Rattle.std.proofs.lemmas.List.{append_assoc, map-append, take_more, drop_more, at_drop_more, take-append-drop, reverse-append, length-map, length-take-le}
use Rattle.std.proofs.lemmas.List.Sums.{fold-append}
use Rattle.std.proofs.lemmas.Option.{slice_get-get_or}

pub take_front : {X : Type 0} (xs ys : List X) → take (length xs) (xs ++ ys) ≡ xs
take_front [] ys = refl
take_front (x ∷ xs) ys = ap (λ l. x ∷ l) (take_front xs ys)

pub drop_front : {X : Type 0} (xs ys : List X) → drop (length xs) (xs ++ ys) ≡ ys
drop_front [] ys = refl
drop_front (x ∷ xs) ys = drop_front xs ys

pub some_at : {X : Type 0} (xs : List X) (i : ℕ) → i < length xs → (x : X) × (slice_get xs i ≡ Some x)
some_at [] i h = absurd (omega arith)
some_at (x ∷ xs) zero h = (x, refl)
some_at (x ∷ xs) (suc i) h = some_at xs i (omega arith)

any_next : {X : Type 0} (test : X → Bool) (xs : List X) (i : ℕ) (b : Bool) → i < length xs → ((x : X) → slice_get xs i ≡ Some x → b ≡ test x)
    → list_any test (drop i xs) ≡ (b || list_any test (drop (i + 1) xs))
any_next {X} test xs i b within is =
    let here : (x : X) × (slice_get xs i ≡ Some x) = some_at xs i within in
    let found : Some (get_or xs i here.0) ≡ Some here.0 = sym (slice_get-get_or xs i here.0 within) ∙ here.1 in
    let same : get_or xs i here.0 ≡ here.0 = cc in
    at_drop_more (list_any test) xs i here.0 within ∙ ap (λ x. test x || list_any test (drop (i + 1) xs)) same
    ∙ ap (λ c. c || list_any test (drop (i + 1) xs)) (sym (is here.0 here.1))

pub any_hit : {X : Type 0} (test : X → Bool) (xs : List X) (i : ℕ) (whole : Bool) → i < length xs → ((x : X) → slice_get xs i ≡ Some x → true ≡ test x)
    → list_any test (drop i xs) ≡ whole → true ≡ whole
any_hit test xs i whole within is so = sym (any_next test xs i true within is) ∙ so

pub any_miss : {X : Type 0} (test : X → Bool) (xs : List X) (i : ℕ) (whole : Bool) → i < length xs → ((x : X) → slice_get xs i ≡ Some x → false ≡ test x)
    → list_any test (drop i xs) ≡ whole → list_any test (drop (i + 1) xs) ≡ whole
any_miss test xs i whole within is so = sym (any_next test xs i false within is) ∙ so

pub any_same : {X : Type 0} (f g : X → Bool) (xs : List X) → ((x : X) → f x ≡ g x) → list_any f xs ≡ list_any g xs
any_same f g [] e = refl
any_same f g (x ∷ xs) e = λ i. e x i || any_same f g xs e i

pub or_left : (a b c : Bool) → true ≡ a → true ≡ b → true ≡ ((a && b) || c)
or_left a b c h k = ap (λ d. (true && d) || c) k ∙ ap (λ d. (d && b) || c) h

pub or_first : (a b : Bool) → true ≡ a → true ≡ (a || b)
or_first a b h = ap (λ c. c || b) h

pub or_second : (a b : Bool) → true ≡ b → true ≡ (a || b)
or_second true b h = refl
or_second false b h = h

pub or_neither : (a b : Bool) → false ≡ a → false ≡ b → false ≡ (a || b)
or_neither a b h k = k ∙ ap (λ c. c || b) h

-- one more item of a fold
pub fold_next : {X A : Type 0} (f : A → X → A) (start now next : A) (xs : List X) (i : ℕ) → i < length xs → now ≡ fold f start (take i xs)
    → ((x : X) → slice_get xs i ≡ Some x → next ≡ f now x) → next ≡ fold f start (take (i + 1) xs)
fold_next {X} f start now next xs i within so is =
    let here : (x : X) × (slice_get xs i ≡ Some x) = some_at xs i within in
    let found : Some (get_or xs i here.0) ≡ Some here.0 = sym (slice_get-get_or xs i here.0 within) ∙ here.1 in
    let same : get_or xs i here.0 ≡ here.0 = cc in
    is here.0 here.1 ∙ ap (λ a. f a here.0) so ∙ ap (f (fold f start (take i xs))) (sym same)
    ∙ sym (fold-append f start (take i xs) (get_or xs i here.0 ∷ [])) ∙ ap (fold f start) (sym (take_more xs i here.0 within))

-- the list so far with the next item
pub push_next : {X : Type 0} (now next xs : List X) (i : ℕ) (x : X) → i < length xs → now ≡ take i xs → next ≡ now ++ x ∷ [] → ((y : X) → slice_get xs i ≡ Some y → x ≡ y)
    → next ≡ take (i + 1) xs
push_next now next xs i x within so step is =
    step ∙ ap (λ l. l ++ x ∷ []) so ∙ ap (λ y. take i xs ++ y ∷ []) (is (get_or xs i x) (slice_get-get_or xs i x within)) ∙ sym (take_more xs i x within)

pub same_next : {X : Type 0} (xs ys : List X) (i : ℕ) (x : X) → i < length xs → i < length ys → x ≡ get_or xs i x → take i xs ≡ take i ys → ((y : X) → slice_get ys i ≡ Some y → x ≡ y)
    → take (i + 1) xs ≡ take (i + 1) ys
same_next xs ys i x here there is so next =
    take_more xs i x here ∙ ap (λ l. l ++ get_or xs i x ∷ []) so ∙ ap (λ y. take i ys ++ y ∷ []) (sym is ∙ next (get_or ys i x) (slice_get-get_or ys i x there)) ∙ sym (take_more ys i x there)

-- ---- a list that is changed in place

pub set_middle : {X : Type 0} (front rest : List X) (y x : X) (i : ℕ) → length front ≡ i → set (front ++ y ∷ rest) i x ≡ front ++ x ∷ rest
set_middle [] rest y x zero is = refl
set_middle [] rest y x (suc i) is = absurd (omega arith)
set_middle (z ∷ front) rest y x zero is = absurd (omega arith)
set_middle (z ∷ front) rest y x (suc i) is = ap (λ l. z ∷ l) (set_middle front rest y x i (omega arith))

get_middle : {X : Type 0} (front rest : List X) (y d : X) (i : ℕ) → length front ≡ i → get_or (front ++ y ∷ rest) i d ≡ y
get_middle [] rest y d zero is = refl
get_middle [] rest y d (suc i) is = absurd (omega arith)
get_middle (z ∷ front) rest y d zero is = absurd (omega arith)
get_middle (z ∷ front) rest y d (suc i) is = get_middle front rest y d i (omega arith)

pub changed_next : {X : Type 0} (g : X → X) (old now next : List X) (i : ℕ) (d x : X) → i < length old → now ≡ map g (take i old) ++ drop i old → x ≡ g (get_or now i d) → next ≡ set now i x
    → next ≡ map g (take (i + 1) old) ++ drop (i + 1) old
changed_next {X} g old now next i d x within so is step =
    let y : X = get_or old i d in
    let front : List X = map g (take i old) in
    let rest : List X = drop (i + 1) old in
    let len : length front ≡ i = length-map (take i old) g ∙ length-take-le i old (omega arith) in
    let split : now ≡ front ++ y ∷ rest = so ∙ ap (λ l. front ++ l) (drop_more old i d within) in
    let item : x ≡ g y = is ∙ ap (λ l. g (get_or l i d)) split ∙ ap g (get_middle front rest y d i len) in
    step ∙ ap (λ l. set l i x) split ∙ set_middle front rest y x i len ∙ ap (λ z. front ++ z ∷ rest) item
    ∙ sym (append_assoc front (g y ∷ []) rest) ∙ ap (λ l. l ++ rest) (sym (ap (map g) (take_more old i d within) ∙ map-append g (take i old) (y ∷ [])))

-- ---- a list that is taken from the end of another

pub taken_next : {X : Type 0} (all args next terms rest : List X) (t : X) → args ≡ take (length args) all → reverse terms ≡ drop (length args) all → terms ≡ rest ++ t ∷ [] → next ≡ args ++ t ∷ []
    → (next ≡ take (length next) all) × (reverse rest ≡ drop (length next) all)
taken_next all args next terms rest t front back pop push =
    let behind : drop (length args) all ≡ t ∷ reverse rest = sym back ∙ ap reverse pop ∙ reverse-append rest (t ∷ []) in
    let split : all ≡ next ++ reverse rest =
    sym (take-append-drop (length args) all) ∙ ap (λ l. l ++ drop (length args) all) (sym front) ∙ ap (λ l. args ++ l) behind ∙ sym (append_assoc args (t ∷ []) (reverse rest))
    ∙ ap (λ l. l ++ reverse rest) (sym push) in
    (sym (ap (take (length next)) split ∙ take_front next (reverse rest)), sym (ap (drop (length next)) split ∙ drop_front next (reverse rest)))
