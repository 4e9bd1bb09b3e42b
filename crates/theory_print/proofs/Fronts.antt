-- The front of a name, and the names that are held.
use Rattle.std.proofs.Common.{◌≡◌, inr, ℕ, suc, ◌+◌, ◌<◌, ◌^◌, cond, Bool, true, false, List, [], ◌∷◌, ◌++◌, length, take, get_or, IsTrue, refl, sym, ap, subst, ◌∙◌, decimal, arith, append_assoc}
use Rattle.std.specs.Prelude.{Option, Some, None, Result, Ok, Err, IfOk, is_some, All, slice_index_or}
use Rattle.std.specs.Option.{option_map}
use Rattle.std.specs.List.{list_all, prefix_len}
use Rattle.std.specs.Str.{bytes_eq}
use Rattle.std.proofs.lemmas.Grind.{common_steps}
use Rattle.std.proofs.lemmas.List.{take_more}
use Rattle.std.proofs.lemmas.List.Elements.{All-append, All-cons, All-nil}
use Rattle.hol_terms.proofs.Both.{both_true, and_true}
use Rattle.theory_terms.specs.declared.decl.Decl.{Decl}
use Rattle.theory_terms.specs.Words.{place}
use Rattle.theory_print.specs.Names.{beginning, BeginsElse, is_before, front_of, Holds}
use Rattle.theory_print.proofs.Digits.{digits_pass}
use Rattle.theory_print.proofs.Finds.{eq_true, at_first, at_rest, placed_at}
use Rattle.theory_print.proofs.FirstFree.{in_pushed}

digit_before : (b : ℕ) → b < 10 → IsTrue (is_before (48 + b))
digit_before b h = grind (arith, common_steps)

-- the bytes before the first `_`
prefix_before : (xs rest : List ℕ) → IsTrue (list_all is_before xs) → take (prefix_len is_before (xs ++ 95 ∷ rest) + 1) (xs ++ 95 ∷ rest) ≡ xs ++ 95 ∷ []
prefix_before [] rest h = refl
prefix_before (x ∷ xs) rest h =
    let b = both_true (is_before x) (list_all is_before xs) h in
    let n = prefix_len is_before (xs ++ 95 ∷ rest) in
    let more : 1 + n + 1 ≡ suc (n + 1) = omega arith in
    ap (λ t. take (cond t (1 + n) 0 + 1) (x ∷ (xs ++ 95 ∷ rest))) b.0 ∙ ap (λ m. take m (x ∷ (xs ++ 95 ∷ rest))) more ∙ ap (λ ys. x ∷ ys) (prefix_before xs rest b.1)

-- a name that begins so has this front
pub front_beginning : (k : ℕ) (rest : List ℕ) → k < 2 ^ 64 → front_of (beginning k ++ rest) ≡ beginning k
front_beginning k rest small =
    let xs = 120 ∷ decimal k in
    let same : beginning k ++ rest ≡ xs ++ 95 ∷ rest = ap (λ ys. 120 ∷ ys) (append_assoc (decimal k) (95 ∷ []) rest) in
    ap front_of same ∙ prefix_before xs rest (and_true (is_before 120) (list_all is_before (decimal k)) refl (digits_pass is_before digit_before k small))

-- ---- what is held

some_more : (o : Option ℕ) → is_some o ≡ true → is_some (option_map (λ i. i + 1) o) ≡ true
some_more None h = cc
some_more (Some i) h = refl

in_step : (name x : List ℕ) (xs ys : List (List ℕ)) (b : Bool) → bytes_eq name x ≡ b → is_some (place name (xs ++ name ∷ ys)) ≡ true → is_some (place name (x ∷ (xs ++ name ∷ ys))) ≡ true
in_step name x xs ys true e ih = ap is_some (at_first name x (xs ++ name ∷ ys) e)
in_step name x xs ys false e ih = ap is_some (at_rest name x (xs ++ name ∷ ys) e) ∙ some_more (place name (xs ++ name ∷ ys)) ih

place_in : (name : List ℕ) (xs ys : List (List ℕ)) → is_some (place name (xs ++ name ∷ ys)) ≡ true
place_in name [] ys = ap is_some (at_first name name ys (eq_true name name refl))
place_in name (x ∷ xs) ys = in_step name x xs ys (bytes_eq name x) refl (place_in name xs ys)

stays_at : (name : List ℕ) (xs ys : List (List ℕ)) (o : Option ℕ) → place name xs ≡ o → is_some o ≡ true → is_some (place name (xs ++ ys)) ≡ true
stays_at name xs ys None e h = cc
stays_at name xs ys (Some i) e h = ap is_some ((placed_at name xs i e).1 ys)

pub holds_more : (old : List (List ℕ)) (name : List ℕ) → Holds old name (old ++ name ∷ [])
holds_more old name = (place_in name old [], λ other h. stays_at other old (name ∷ []) (place other old) refl h, λ other h. in_pushed other name old h)

pub holds_same : (old : List (List ℕ)) (name : List ℕ) (i : ℕ) → place name old ≡ Some i → Holds old name old
holds_same old name i e = (ap is_some e, λ other h. h, λ other h. inr h)

-- the fronts of the names are held
abbrev pub AllHeld : List (List ℕ) → List Decl → Type 0
AllHeld set ds = All (λ d. is_some (place (front_of d.name) set) ≡ true) ds

pub held_none : (set : List (List ℕ)) → AllHeld set []
held_none set = All-nil (λ d. is_some (place (front_of d.name) set) ≡ true)

pub held_more : (xs : List Decl) (i : ℕ) (x : Decl) (set new : List (List ℕ)) (front : List ℕ) → i < length xs → x ≡ get_or xs i x → front ≡ front_of x.name → AllHeld set (take i xs) →
    Holds set front new → AllHeld new (take (i + 1) xs)
held_more xs i x set new front within is fits a h =
    let P : Decl → Type 0 = λ d. is_some (place (front_of d.name) new) ≡ true in
    let here : P x = subst (λ f. is_some (place f new) ≡ true) fits h.0 in
    let before : All P (take i xs) = λ k d l. h.1 (front_of (slice_index_or (take i xs) k d).name) (a k d l) in
    let whole : take (i + 1) xs ≡ take i xs ++ x ∷ [] = take_more xs i x within ∙ ap (λ y. take i xs ++ y ∷ []) (sym is) in
    subst (AllHeld new) (sym whole) (All-append P (take i xs) (x ∷ []) before (All-cons P x [] here (All-nil P)))

-- a beginning that isn't held begins no name
pub fresh : (k : ℕ) (set : List (List ℕ)) (ds : List Decl) → k < 2 ^ 64 → is_some (place (beginning k) set) ≡ false → AllHeld set ds → All (λ d. BeginsElse (beginning k) d.name) ds
fresh k set ds small free a i d l rest e =
    let held = a i d l in
    let front : front_of (slice_index_or ds i d).name ≡ beginning k = ap front_of e ∙ front_beginning k rest small in
    let there : is_some (place (beginning k) set) ≡ true = subst (λ f. is_some (place f set) ≡ true) front held in
    cc

pub if_ok_weaker : {T E : Type 0} (r : Result T E) (P Q : T → Type 0) → ((x : T) → P x → Q x) → IfOk r P → IfOk r Q
if_ok_weaker (Ok x) P Q h p = h x p
if_ok_weaker (Err e) P Q h p = p
