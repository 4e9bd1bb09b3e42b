-- Laws of one-sided matching.
use Rattle.std.proofs.Common.{◌≡◌, ℕ, ◌+◌, ◌<◌, ◌≤◌, zero, suc, min, Bool, true, false, ◌==◌, if◌then◌else◌, List, [], ◌∷◌, ◌++◌, map, take, length, get_or, Option, Some, None, refl, sym, ap, subst, ◌∙◌, arith}
use Rattle.std.specs.Prelude.{unwrap_or, is_some, ◌||◌}
use Rattle.fo_terms.specs.declared.term.FoTerm.{FoTerm}
use Rattle.fo_unify.specs.declared.subst.Bind.{Bind}
use Rattle.fo_terms.specs.Substitution.{var, fun, put, occurs_in, occurs_in_any}
use Rattle.fo_unify.specs.Lookup.{lookup, term_of}
use Rattle.fo_unify.specs.Match.{Holds, Unique, Fits, Matches, MatchesAll, IsMatch}
use Rattle.std.proofs.lemmas.Bool.Decides.{nat_tests}
use Rattle.fo_terms.proofs.Substitution.{put_var, put_fun, occurs_var, occurs_fun, equal_true, equal_from}
use Rattle.fo_terms.proofs.Heads.{fun_no_var, fun_same}
use Rattle.std.proofs.lemmas.List.{length-map, length-take, take-map, take-take, take_more, take_all}
use Rattle.fo_unify.proofs.Closing.{map_more}

-- ---- look-ups

kept_at : (test : Bool) (t r : FoTerm) (old new : Option FoTerm) → (old ≡ Some r → new ≡ Some r) → (if test then Some t else old) ≡ Some r → (if test then Some t else new) ≡ Some r
kept_at true t r old new more h = h
kept_at false t r old new more h = more h

pub lookup_kept : (bs : List Bind) (n : Bind) (y : ℕ) (r : FoTerm) → lookup bs y ≡ Some r → lookup (bs ++ n ∷ []) y ≡ Some r
lookup_kept [] n y r h = cc
lookup_kept (b ∷ bs) n y r h = kept_at (b.var == y) b.term r (lookup bs y) (lookup (bs ++ n ∷ []) y) (lookup_kept bs n y r) h

new_at : (test : Bool) (t r : FoTerm) (old new : Option FoTerm) → (old ≡ None → new ≡ Some r) → (if test then Some t else old) ≡ None → (if test then Some t else new) ≡ Some r
new_at true t r old new more h = cc
new_at false t r old new more h = more h

pub lookup_new : (bs : List Bind) (n : Bind) → lookup bs n.var ≡ None → lookup (bs ++ n ∷ []) n.var ≡ Some n.term
lookup_new [] n h = ap (λ b. if b then Some n.term else None) (equal_true n.var)
lookup_new (b ∷ bs) n h = new_at (b.var == n.var) b.term n.term (lookup bs n.var) (lookup (bs ++ n ∷ []) n.var) (lookup_new bs n) h

holds_kept : (binds bs : List Bind) (n : Bind) → Holds binds bs → Holds (binds ++ n ∷ []) bs
holds_kept binds [] n h = tt
holds_kept binds (b ∷ bs) n h = (lookup_kept binds n b.var b.term h.0, holds_kept binds bs n h.1)

holds_push : (binds bs : List Bind) (n : Bind) → Holds binds bs → lookup binds n.var ≡ Some n.term → Holds binds (bs ++ n ∷ [])
holds_push binds [] n h e = (e, tt)
holds_push binds (b ∷ bs) n h e = (h.0, holds_push binds bs n h.1 e)

pub unique_push : (binds : List Bind) (n : Bind) → Unique binds → lookup binds n.var ≡ None → Unique (binds ++ n ∷ [])
unique_push binds n unique none = holds_push (binds ++ n ∷ []) binds n (holds_kept binds binds n unique) (lookup_new binds n none)

-- ---- fits

fits_itself : (binds bs : List Bind) → Holds binds bs → Fits (term_of binds) bs
fits_itself binds [] h = tt
fits_itself binds (b ∷ bs) h = (ap (λ o. unwrap_or o (var b.var)) h.0, fits_itself binds bs h.1)

pub unique_fits : (binds : List Bind) → Unique binds → Fits (term_of binds) binds
unique_fits binds unique = fits_itself binds binds unique

fits_at : (v : ℕ → FoTerm) (b : Bind) (bs : List Bind) (y : ℕ) (r : FoTerm) (test : Bool) → (b.var == y) ≡ test → v b.var ≡ b.term → (lookup bs y ≡ Some r → v y ≡ r)
    → (if test then Some b.term else lookup bs y) ≡ Some r → v y ≡ r
fits_at v b bs y r true e here rest h = let same : b.term ≡ r = cc in ap v (sym (equal_from b.var y e)) ∙ here ∙ same
fits_at v b bs y r false e here rest h = rest h

pub fits_lookup : (v : ℕ → FoTerm) (bs : List Bind) (y : ℕ) (r : FoTerm) → Fits v bs → lookup bs y ≡ Some r → v y ≡ r
fits_lookup v [] y r fits h = cc
fits_lookup v (b ∷ bs) y r fits h = fits_at v b bs y r (b.var == y) refl fits.0 (fits_lookup v bs y r fits.1) h

pub fits_push : (v : ℕ → FoTerm) (bs : List Bind) (n : Bind) → Fits v bs → v n.var ≡ n.term → Fits v (bs ++ n ∷ [])
fits_push v [] n fits h = (h, tt)
fits_push v (b ∷ bs) n fits h = (fits.0, fits_push v bs n fits.1 h)

pub fits_front : (v : ℕ → FoTerm) (bs : List Bind) (n : Bind) → Fits v (bs ++ n ∷ []) → Fits v bs × (v n.var ≡ n.term)
fits_front v [] n fits = (tt, fits.0)
fits_front v (b ∷ bs) n fits = let rest = fits_front v bs n fits.1 in ((fits.0, rest.0), rest.1)

-- ---- which variables are bound

or_none : (a : Bool) → a ≡ (a || false)
or_none true = refl
or_none false = refl

or_third : (a b c : Bool) → ((a || b) || c) ≡ (a || (b || c))
or_third true b c = refl
or_third false b c = refl

bound_at : (bs : List Bind) (x z : ℕ) (r : FoTerm) (test : Bool) → (z == x) ≡ test → lookup bs x ≡ Some r → is_some (lookup bs z) ≡ (is_some (lookup bs z) || test)
bound_at bs x z r true e found =
    let here : is_some (lookup bs z) ≡ true = ap (λ y. is_some (lookup bs y)) (equal_from z x e) ∙ ap is_some found in
    here ∙ sym (ap (λ a. a || true) here)
bound_at bs x z r false e found = or_none (is_some (lookup bs z))

bound_var : (bs : List Bind) (x z : ℕ) (r : FoTerm) → lookup bs x ≡ Some r → is_some (lookup bs z) ≡ (is_some (lookup bs z) || occurs_in z (var x))
bound_var bs x z r found = bound_at bs x z r (z == x) refl found ∙ ap (λ a. is_some (lookup bs z) || a) (sym (occurs_var z x))

test_some : (test : Bool) (t : FoTerm) → is_some (if test then Some t else None) ≡ test
test_some true t = refl
test_some false t = refl

equal_turned : (x y : ℕ) → (x == y) ≡ (y == x)
equal_turned x y = grind (arith, nat_tests)

bound_more : (test : Bool) (t : FoTerm) (old new : Option FoTerm) (has : Bool) → is_some new ≡ (is_some old || has) → is_some (if test then Some t else new) ≡ (is_some (if test then Some t else old) || has)
bound_more true t old new has h = refl
bound_more false t old new has h = h

bound_push : (bs : List Bind) (n : Bind) (z : ℕ) → is_some (lookup (bs ++ n ∷ []) z) ≡ (is_some (lookup bs z) || occurs_in z (var n.var))
bound_push [] n z = test_some (n.var == z) n.term ∙ equal_turned n.var z ∙ sym (occurs_var z n.var)
bound_push (b ∷ bs) n z = bound_more (b.var == z) b.term (lookup bs z) (lookup (bs ++ n ∷ []) z) (occurs_in z (var n.var)) (bound_push bs n z)

any_push : (z : ℕ) (xs : List FoTerm) (x : FoTerm) → occurs_in_any z (xs ++ x ∷ []) ≡ (occurs_in_any z xs || occurs_in z x)
any_push z [] x = sym (or_none (occurs_in z x))
any_push z (y ∷ xs) x = ap (λ a. occurs_in z y || a) (any_push z xs x) ∙ sym (or_third (occurs_in z y) (occurs_in_any z xs) (occurs_in z x))

-- ---- a variable

pub match_bound : (bs : List Bind) (x : ℕ) (t r : FoTerm) (made : Bool) → Unique bs → lookup bs x ≡ Some r → (made ≡ true → r ≡ t) → (r ≡ t → made ≡ true) → Matches (var x) t bs bs made
match_bound bs x t r true unique found same back =
    (unique, λ v. (λ fits. (fits, put_var v x ∙ fits_lookup v bs x r fits found ∙ same refl), λ p. p.0), λ z. bound_var bs x z r found)
match_bound bs x t r false unique found same back = λ v fits u.
    let wrong : false ≡ true = back (sym (fits_lookup v bs x r fits found) ∙ sym (put_var v x) ∙ u) in cc

pub match_new : (bs more : List Bind) (x : ℕ) (t : FoTerm) → Unique bs → lookup bs x ≡ None → more ≡ bs ++ record { var = x; term = t } ∷ [] → Matches (var x) t bs more true
match_new bs more x t unique none is =
    let n : Bind = record { var = x; term = t } in
    let made : Matches (var x) t bs (bs ++ n ∷ []) true =
    (unique_push bs n unique none, λ v. (λ fits. (let parts = fits_front v bs n fits in (parts.0, put_var v x ∙ parts.1)), λ p. fits_push v bs n p.0 (sym (put_var v x) ∙ p.1)), λ z. bound_push bs n z) in
    subst (λ m. Matches (var x) t bs m true) (sym is) made

-- ---- heads

pub match_other : (bs new : List Bind) (f g : ℕ) (xs ys : List FoTerm) → (f ≡ g → length xs ≡ length ys → ⊥) → Matches (fun f xs) (fun g ys) bs new false
match_other bs new f g xs ys apart v fits u =
    let same = fun_same f g (map (put v) xs) ys (sym (put_fun v f xs) ∙ u) in
    apart same.0 (sym (length-map xs (put v)) ∙ ap length same.1)

pub match_fun_var : (bs new : List Bind) (f y : ℕ) (xs : List FoTerm) → Matches (fun f xs) (var y) bs new false
match_fun_var bs new f y xs v fits u = fun_no_var f y (map (put v) xs) (sym (put_fun v f xs) ∙ u)

pub match_fun : (bs new : List Bind) (f g : ℕ) (xs ys : List FoTerm) (made : Bool) → f ≡ g → MatchesAll xs ys bs new made → Matches (fun f xs) (fun g ys) bs new made
match_fun bs new f g xs ys true heads all = (
  all.0,
  λ v. (
    λ fits. (let parts = (all.1 v).0 fits in (parts.0, put_fun v f xs ∙ (λ i. fun (heads i) (parts.1 i)))),
    λ p. (all.1 v).1 (p.0, (fun_same f g (map (put v) xs) ys (sym (put_fun v f xs) ∙ p.1)).1),
  ),
  λ z. all.2 z ∙ ap (λ a. is_some (lookup bs z) || a) (sym (occurs_fun z f xs)),
)
match_fun bs new f g xs ys false heads all = λ v fits u. all v fits (fun_same f g (map (put v) xs) ys (sym (put_fun v f xs) ∙ u)).1

-- ---- one more argument

map_get : {X Y : Type 0} (f : X → Y) (xs : List X) (i : ℕ) (d : X) (e : Y) → i < length xs → f (get_or xs i d) ≡ get_or (map f xs) i e
map_get f [] i d e h = absurd (omega arith)
map_get f (x ∷ xs) zero d e h = refl
map_get f (x ∷ xs) (suc i) d e h = let within : i < length xs = omega arith in map_get f xs i d e within

push_same : {X : Type 0} (xs ys : List X) (a b : X) → length xs ≡ length ys → xs ++ a ∷ [] ≡ ys ++ b ∷ [] → (xs ≡ ys) × (a ≡ b)
push_same [] [] a b l e = (refl, cc)
push_same [] (y ∷ ys) a b l e = absurd (omega arith)
push_same (x ∷ xs) [] a b l e = absurd (omega arith)
push_same (x ∷ xs) (y ∷ ys) a b l e =
    let shorter : length xs ≡ length ys = omega arith in
    let first : x ≡ y = cc in
    let more : xs ++ a ∷ [] ≡ ys ++ b ∷ [] = cc in
    let rest = push_same xs ys a b shorter more in
    (λ i. first i ∷ rest.0 i, rest.1)

module _ (ps ts : List FoTerm) (i : ℕ) (p t : FoTerm) (old now new : List Bind) (lengths : length ps ≡ length ts)
    (within : i < length ps) (at_p : p ≡ get_or ps i p) (at_t : t ≡ get_or ts i t) (all : MatchesAll (take i ps) (take i ts) old now true) where
  longer : (v : ℕ → FoTerm) → map (put v) (take (i + 1) ps) ≡ map (put v) (take i ps) ++ put v p ∷ []
  longer v = map_more (put v) ps i p within at_p

  more_ps : take (i + 1) ps ≡ take i ps ++ p ∷ []
  more_ps = take_more ps i p within ∙ ap (λ x. take i ps ++ x ∷ []) (sym at_p)

  more_ts : take (i + 1) ts ≡ take i ts ++ t ∷ []
  more_ts = let inside : i < length ts = omega arith in take_more ts i t inside ∙ ap (λ x. take i ts ++ x ∷ []) (sym at_t)

  pub all_more : Matches p t now new true → MatchesAll (take (i + 1) ps) (take (i + 1) ts) old new true
  all_more one = (
    one.0,
    λ v. (
      λ fits. (let parts = (one.1 v).0 fits in let before = (all.1 v).0 parts.0 in
          (before.0, longer v ∙ (λ j. before.1 j ++ parts.1 j ∷ []) ∙ sym more_ts)),
      λ q. (
          let same_lengths : length (map (put v) (take i ps)) ≡ length (take i ts) = length-map (take i ps) (put v) ∙ length-take i ps ∙ ap (min i) lengths ∙ sym (length-take i ts) in
          let parts = push_same (map (put v) (take i ps)) (take i ts) (put v p) t same_lengths (sym (longer v) ∙ q.1 ∙ more_ts) in
          (one.1 v).1 ((all.1 v).1 (q.0, parts.0), parts.1)),
    ),
    λ z. one.2 z ∙ ap (λ a. a || occurs_in z p) (all.2 z) ∙ or_third (is_some (lookup old z)) (occurs_in_any z (take i ps)) (occurs_in z p)
        ∙ ap (λ a. is_some (lookup old z) || a) (sym (any_push z (take i ps) p) ∙ ap (occurs_in_any z) (sym more_ps)),
  )

  pub all_fail : Matches p t now new false → MatchesAll ps ts old new false
  all_fail one = λ v fits u.
      let so_far : map (put v) (take i ps) ≡ take i ts = sym (take-map (put v) i ps) ∙ ap (take i) u in
      let here : put v p ≡ t = ap (put v) at_p ∙ map_get (put v) ps i p t within ∙ ap (λ l. get_or l i t) u ∙ sym at_t in
      one v ((all.1 v).1 (fits, so_far)) here

pub all_done : (ps ts : List FoTerm) (i : ℕ) (old new : List Bind) → length ps ≡ length ts → length ps ≤ i → MatchesAll (take i ps) (take i ts) old new true → MatchesAll ps ts old new true
all_done ps ts i old new lengths past all =
    let past_ts : length ts ≤ i = omega arith in
    subst (λ l. MatchesAll l ts old new true) (take_all i ps past) (subst (λ l. MatchesAll (take i ps) l old new true) (take_all i ts past_ts) all)

pub match_made : (p t : FoTerm) (bs : List Bind) → Matches p t [] bs true → IsMatch p t bs
match_made p t bs made = record { bound = made.2; made = ((made.1 (term_of bs)).0 (unique_fits bs made.0)).1 }

pub take_kept : {X : Type 0} (init now new : List X) → take (length init) now ≡ init → take (length now) new ≡ now → take (length init) new ≡ init
take_kept init now new first second =
    let short : min (length init) (length now) ≡ length init = sym (length-take (length init) now) ∙ ap length first in
    let fits : length init ≤ length now = omega arith in
    sym (take-take (length init) (length now) new fits) ∙ ap (take (length init)) second ∙ first
