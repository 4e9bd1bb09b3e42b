-- The first number whose beginning isn't held: of so many numbers as names are held, and one more, one is free.
use Rattle.std.proofs.Common.{◌≡◌, ◌⊎◌, inl, inr, ℕ, zero, suc, ◌+◌, ◌<◌, ◌≤◌, ◌^◌, Bool, true, false, ◌||◌, List, [], ◌∷◌, ◌++◌, length, take, drop, get_or, refl, sym, ◌∙◌, ap, subst, decimal, codes, arith}
use Rattle.std.specs.Prelude.{Option, Some, None, is_some, All}
use Rattle.std.specs.Option.{option_map}
use Rattle.std.specs.List.{list_any, prefix_len}
use Rattle.std.specs.Str.{bytes_eq}
use Rattle.std.proofs.lemmas.Fmt.{decimal_injective}
use Rattle.std.proofs.lemmas.List.{append_cancel_right, append_cancel_left, take-append-drop, take_more}
use Rattle.std.proofs.lemmas.List.Elements.{All-head, All-tail}
use Rattle.theory_terms.specs.declared.decl.Decl.{Decl}
use Rattle.theory_terms.specs.Words.{place}
use Rattle.theory_print.specs.Names.{beginning, BeginsElse, is_before, front_of, IsFront}
use Rattle.theory_print.proofs.Finds.{eq_true, eq_same, at_first, at_rest}

abbrev pub In : List ℕ → List (List ℕ) → Type 0
In name names = is_some (place name names) ≡ true

-- ---- a name that is held, by the first of the names or by the others
unmapped : (o : Option ℕ) → is_some (option_map (λ i. i + 1) o) ≡ true → is_some o ≡ true
unmapped None h = cc
unmapped (Some i) h = refl

mapped : (o : Option ℕ) → is_some o ≡ true → is_some (option_map (λ i. i + 1) o) ≡ true
mapped None h = cc
mapped (Some i) h = refl

by_first : (name x : List ℕ) (xs : List (List ℕ)) (b : Bool) → bytes_eq name x ≡ b → In name (x ∷ xs) → (name ≡ x) ⊎ In name xs
by_first name x xs true e h = inl (eq_same name x e)
by_first name x xs false e h = inr (unmapped (place name xs) (sym (ap is_some (at_rest name x xs e)) ∙ h))

pub first_or_rest : (name x : List ℕ) (xs : List (List ℕ)) → In name (x ∷ xs) → (name ≡ x) ⊎ In name xs
first_or_rest name x xs h = by_first name x xs (bytes_eq name x) refl h

pub in_first : (name x : List ℕ) (xs : List (List ℕ)) → name ≡ x → In name (x ∷ xs)
in_first name x xs e = ap is_some (at_first name x xs (eq_true name x e))

in_others_by : (name x : List ℕ) (xs : List (List ℕ)) (b : Bool) → bytes_eq name x ≡ b → In name xs → In name (x ∷ xs)
in_others_by name x xs true e h = ap is_some (at_first name x xs e)
in_others_by name x xs false e h = ap is_some (at_rest name x xs e) ∙ mapped (place name xs) h

pub in_others : (name x : List ℕ) (xs : List (List ℕ)) → In name xs → In name (x ∷ xs)
in_others name x xs h = in_others_by name x xs (bytes_eq name x) refl h

pub none_in : (name : List ℕ) → In name [] → ⊥
none_in name h = cc

-- a name that is put in at the end
pub in_pushed : (name x : List ℕ) (xs : List (List ℕ)) → In name (xs ++ x ∷ []) → (name ≡ x) ⊎ In name xs
in_pushed name x [] h = first_or_rest name x [] h
in_pushed name x (y ∷ xs) h =
    elim (first_or_rest name y (xs ++ x ∷ []) h) [
      | inl e ↦ inr (in_first name y xs e)
      | inr m ↦ elim (in_pushed name x xs m) [ inl e ↦ inl e | inr n ↦ inr (in_others name y xs n) ]
    ]

-- ---- numbers that are told apart by names that are held are no more than the names
pub record Without (x : List ℕ) (xs : List (List ℕ)) : Type 0 where
  pub rest : List (List ℕ)
  pub fewer : length xs ≡ suc (length rest)
  pub others : (y : List ℕ) → (y ≡ x → ⊥) → In y xs → In y rest

leave_out : (x y : List ℕ) (ys : List (List ℕ)) → Without x ys → Without x (y ∷ ys)
leave_out x y ys w =
    record {
      rest = y ∷ w.rest;
      fewer = ap suc w.fewer;
      others = λ z differs m. elim (first_or_rest z y ys m) [ inl e ↦ in_first z y w.rest e | inr n ↦ in_others z y w.rest (w.others z differs n) ];
    }

pub without : (x : List ℕ) (xs : List (List ℕ)) → In x xs → Without x xs
without x [] h = absurd (none_in x h)
without x (y ∷ ys) h =
    elim (first_or_rest x y ys h) [
      | inl e ↦ record { rest = ys; fewer = refl; others = λ z differs m. elim (first_or_rest z y ys m) [ inl same ↦ absurd (differs (same ∙ sym e)) | inr n ↦ n ] }
      | inr m ↦ leave_out x y ys (without x ys m)
    ]

pub no_more : (f : ℕ → List ℕ) (n : ℕ) → ((i j : ℕ) → i < n → j < n → f i ≡ f j → i ≡ j) → (xs : List (List ℕ)) → ((j : ℕ) → j < n → In (f j) xs) → n ≤ length xs
no_more f zero apart xs all = omega arith
no_more f (suc n) apart xs all =
    let last : n < suc n = omega arith in
    let w = without (f n) xs (all n last) in
    let rest : n ≤ length w.rest = no_more f n (λ i j a b. apart i j (omega arith) (omega arith)) w.rest (λ j l. w.others (f j) (λ e. let same : j ≡ n = apart j n (omega arith) last e in absurd (omega arith)) (all j (omega arith))) in
    let fewer : length xs ≡ suc (length w.rest) = w.fewer in
    omega arith

-- ---- beginnings
pub beginnings_apart : (i j : ℕ) → i < 2 ^ 64 → j < 2 ^ 64 → beginning i ≡ beginning j → i ≡ j
beginnings_apart i j a b e = decimal_injective i j a b (append_cancel_right (decimal i) (decimal j) (codes "_") (append_cancel_left (codes "x") (decimal i ++ codes "_") (decimal j ++ codes "_") e))

free : (b : Bool) → (b ≡ true → ⊥) → b ≡ false
free true h = absurd (h refl)
free false h = refl

below_or_at : (j n : ℕ) → j < n + 1 → (j < n) ⊎ (j ≡ n)
below_or_at j n h = grind arith

-- where the numbers below that of the names are all taken, this one is free
pub one_is_free : (set : List (List ℕ)) (n : ℕ) → n ≡ length set → n < 2 ^ 32 → ((j : ℕ) → j < n → In (beginning j) set) → is_some (place (beginning n) set) ≡ false
one_is_free set n size small taken =
    free (is_some (place (beginning n) set)) (λ h.
    let all : n + 1 ≤ length set = no_more beginning (n + 1) (λ i j a b. beginnings_apart i j (omega arith) (omega arith)) set (λ j l. elim (below_or_at j n l) [ inl low ↦ taken j low | inr e ↦ subst (λ z. In (beginning z) set) (sym e) h ]) in
    absurd (omega arith))

-- ---- what is held are fronts of constants
abbrev pub OnlyFronts : List (List ℕ) → List Decl → Type 0
OnlyFronts set ds = (name : List ℕ) → In name set → IsFront name ds

swapped : (p q r : Bool) → (p || (q || r)) ≡ (q || (p || r))
swapped true true r = refl
swapped true false r = refl
swapped false q r = refl

any_push : (p : Decl → Bool) (ds : List Decl) (d : Decl) → list_any p (ds ++ d ∷ []) ≡ (p d || list_any p ds)
any_push p [] d = refl
any_push p (x ∷ ds) d = ap (λ b. p x || b) (any_push p ds d) ∙ swapped (p x) (p d) (list_any p ds)

or_right : (a b : Bool) → b ≡ true → (a || b) ≡ true
or_right true b h = refl
or_right false b h = h

or_left : (a b : Bool) → a ≡ true → (a || b) ≡ true
or_left true b h = refl
or_left false b h = cc

pub front_pushed : (name : List ℕ) (ds : List Decl) (d : Decl) → (front_of d.name ≡ name) ⊎ IsFront name ds → IsFront name (ds ++ d ∷ [])
front_pushed name ds d (inl e) = any_push (λ d. bytes_eq (front_of d.name) name) ds d ∙ or_left (bytes_eq (front_of d.name) name) (list_any (λ d. bytes_eq (front_of d.name) name) ds) (eq_true (front_of d.name) name e)
front_pushed name ds d (inr h) = any_push (λ d. bytes_eq (front_of d.name) name) ds d ∙ or_right (bytes_eq (front_of d.name) name) (list_any (λ d. bytes_eq (front_of d.name) name) ds) h

pub only_more : (xs : List Decl) (i : ℕ) (x : Decl) (set new : List (List ℕ)) (front : List ℕ) → i < length xs → x ≡ get_or xs i x → front ≡ front_of x.name → OnlyFronts set (take i xs) →
    ((other : List ℕ) → In other new → (other ≡ front) ⊎ In other set) → OnlyFronts new (take (i + 1) xs)
only_more xs i x set new front within is fits only nothing name h =
    let whole : take (i + 1) xs ≡ take i xs ++ x ∷ [] = take_more xs i x within ∙ ap (λ y. take i xs ++ y ∷ []) (sym is) in
    subst (IsFront name) (sym whole) (front_pushed name (take i xs) x (elim (nothing name h) [ inl e ↦ inl (sym (e ∙ fits)) | inr m ↦ inr (only name m) ]))

not_front : (front : List ℕ) (d : Decl) → BeginsElse front d.name → front_of d.name ≡ front → ⊥
not_front front d else_ e =
    let n = prefix_len is_before d.name + 1 in
    else_ (drop n d.name) (sym (take-append-drop n d.name) ∙ ap (λ z. z ++ drop n d.name) e)

front_cases : (front : List ℕ) (d : Decl) (b rest : Bool) → bytes_eq (front_of d.name) front ≡ b → (b || rest) ≡ true → (front_of d.name ≡ front) ⊎ (rest ≡ true)
front_cases front d true rest e h = inl (eq_same (front_of d.name) front e)
front_cases front d false rest e h = inr h

-- a number whose beginning is a constant's front isn't fresh
pub front_is_taken : (front : List ℕ) (ds : List Decl) → IsFront front ds → All (λ d. BeginsElse front d.name) ds → ⊥
front_is_taken front [] h a = cc
front_is_taken front (d ∷ ds) h a =
    elim (front_cases front d (bytes_eq (front_of d.name) front) (list_any (λ d. bytes_eq (front_of d.name) front) ds) refl h) [
      | inl e ↦ not_front front d (All-head (λ d. BeginsElse front d.name) d ds a) e
      | inr m ↦ front_is_taken front ds m (All-tail (λ d. BeginsElse front d.name) d ds a)
    ]
