-- The place of a key behind one key more.
use Rattle.std.proofs.Common.{◌≡◌, ℕ, ◌+◌, Bool, true, false, cond, List, [], ◌∷◌, ◌++◌, length, refl, sym, ap, subst, ◌∙◌, arith}
use Rattle.std.specs.Prelude.{Option, Some, None, position, IfSome, ◌<◌, ◌≤◌}
use Rattle.std.proofs.lemmas.List.Quantifiers.{position-Some}
use Rattle.std.specs.Option.{option_map}
use Rattle.std.specs.declared.cmp.Ordering.{Ordering}
use Rattle.std.specs.declared.cmp.Ordering.TheVariants.{Less, Equal, Greater}
use Rattle.std.specs.Ordering.{is_eq}
use Rattle.std.specs.Cmp.{IsTotalOrder}
use Rattle.std.proofs.lemmas.Cmp.{tied_back}
use Rattle.std.proofs.lemmas.Grind.{common_steps}
use Rattle.std.proofs.Common.{Vec, Global}
use Rattle.std.specs.Ordering.{nat_cmp}
use Rattle.std.specs.Cmp.Lexicographic.{slice_cmp}
use Rattle.std.specs.Str.{bytes_eq}
use Rattle.std.specs.BTreeMap.{BTreeMap, get_by, UpdatesBy}
use Rattle.std.specs.Map.{lookup, IsKeyTest, AreApart, KeepsOthers}
use Rattle.std.proofs.lemmas.Cmp.{nat_list_cmp_total, nat_list_eq_equiv, eq_by_cmp_equiv}
use Rattle.std.proofs.lemmas.Map.Text.{is_eq-slice_cmp}
use Rattle.std.proofs.lemmas.Slice.Eq.{bytes_eq-Decides}
use Rattle.theory_terms.specs.Words.{place}
use Rattle.theory_terms.proofs.Places.{at_first, at_rest}

-- the first of two answers
abbrev pub or_else : Option ℕ → Option ℕ → Option ℕ
or_else None d = d
or_else (Some i) d = Some i

module _ {X : Type 0} (p : X → Bool) where
  last : X → List X → Option ℕ
  last x xs = cond (p x) (Some (length xs)) None

  one : (x : X) (b : Bool) → p x ≡ b → position p (x ∷ []) ≡ cond b (Some 0) None
  one x true e = at_first p x [] e
  one x false e = at_rest p x [] e

  moved : (o : Option ℕ) (b : Bool) (n : ℕ) → option_map (λ i. i + 1) (or_else o (cond b (Some n) None)) ≡ or_else (option_map (λ i. i + 1) o) (cond b (Some (n + 1)) None)
  moved None true n = refl
  moved None false n = refl
  moved (Some i) b n = refl

  step : (x y : X) (ys : List X) (b : Bool) → p y ≡ b → position p (ys ++ x ∷ []) ≡ or_else (position p ys) (cond (p x) (Some (length ys)) None) →
      position p (y ∷ ys ++ x ∷ []) ≡ or_else (position p (y ∷ ys)) (cond (p x) (Some (length ys + 1)) None)
  step x y ys true e h = at_first p y (ys ++ x ∷ []) e ∙ sym (ap (λ o. or_else o (cond (p x) (Some (length ys + 1)) None)) (at_first p y ys e))
  step x y ys false e h =
      at_rest p y (ys ++ x ∷ []) e ∙ ap (option_map (λ i. i + 1)) h ∙ moved (position p ys) (p x) (length ys) ∙
      sym (ap (λ o. or_else o (cond (p x) (Some (length ys + 1)) None)) (at_rest p y ys e))

  pub position_last : (x : X) (xs : List X) → position p (xs ++ x ∷ []) ≡ or_else (position p xs) (cond (p x) (Some (length xs)) None)
  position_last x [] = one x (p x) refl
  position_last x (y ∷ ys) = let n : length (y ∷ ys) ≡ length ys + 1 = omega arith in
      step x y ys (p y) refl (position_last x ys) ∙ ap (λ k. or_else (position p (y ∷ ys)) (cond (p x) (Some k) None)) (sym n)

module _ {X : Type 0} (p q : X → Bool) (same : (x : X) → p x ≡ q x) where
  like : (x : X) (xs : List X) (b : Bool) → p x ≡ b → position p xs ≡ position q xs → position p (x ∷ xs) ≡ position q (x ∷ xs)
  like x xs true e h = at_first p x xs e ∙ sym (at_first q x xs (sym (same x) ∙ e))
  like x xs false e h = at_rest p x xs e ∙ ap (option_map (λ i. i + 1)) h ∙ sym (at_rest q x xs (sym (same x) ∙ e))

  pub position_alike : (xs : List X) → position p xs ≡ position q xs
  position_alike [] = refl
  position_alike (x ∷ xs) = like x xs (p x) refl (position_alike xs)

module _ {K : Type 0} (R : K → K → Ordering) (laws : IsTotalOrder R) (x q : K) (xs : List K) (absent : position (λ k. is_eq (R x k)) xs ≡ None) where
  here : R x q ≡ Equal → Some (length xs) ≡ position (λ k. is_eq (R q k)) (xs ++ x ∷ [])
  here e =
      let none : position (λ k. is_eq (R q k)) xs ≡ None = position_alike (λ k. is_eq (R q k)) (λ k. is_eq (R x k)) (λ k. ap is_eq (sym (laws.congr x q k e))) xs ∙ absent in
      sym (position_last (λ k. is_eq (R q k)) x xs ∙ ap (λ o. or_else o (cond (is_eq (R q x)) (Some (length xs)) None)) none ∙
      ap (λ o. cond (is_eq o) (Some (length xs)) None) (tied_back laws x q e))

  apart : (b : Bool) → is_eq (R q x) ≡ b → b ≡ false → position (λ k. is_eq (R q k)) xs ≡ position (λ k. is_eq (R q k)) (xs ++ x ∷ [])
  apart b e f = sym (position_last (λ k. is_eq (R q k)) x xs ∙ ap (λ v. or_else (position (λ k. is_eq (R q k)) xs) (cond v (Some (length xs)) None)) (e ∙ f) ∙ end (position (λ k. is_eq (R q k)) xs))
    where
      end : (o : Option ℕ) → or_else o None ≡ o
      end None = refl
      end (Some i) = refl

  back : (o : Ordering) → R x q ≡ o → (o ≡ Equal → is_eq (R q x) ≡ true) × ((is_eq o ≡ false) → is_eq (R q x) ≡ false)
  back o e = (λ h. ap is_eq (tied_back laws x q (e ∙ h)), λ h. ap is_eq (laws.antisymm q x ∙ ap (λ r. reversed r) e) ∙ flat o h)
    where
      reversed : Ordering → Ordering
      reversed Less = Greater
      reversed Equal = Equal
      reversed Greater = Less

      flat : (r : Ordering) → is_eq r ≡ false → is_eq (reversed r) ≡ false
      flat Less h = refl
      flat Equal h = h
      flat Greater h = refl

  by_order : (o : Ordering) → R x q ≡ o → cond (is_eq o) (Some (length xs)) (position (λ k. is_eq (R q k)) xs) ≡ position (λ k. is_eq (R q k)) (xs ++ x ∷ [])
  by_order Less e = apart (is_eq (R q x)) refl ((back Less e).1 refl)
  by_order Equal e = here e
  by_order Greater e = apart (is_eq (R q x)) refl ((back Greater e).1 refl)

  -- the key that is added is found at its place, and each other where it was
  pub place_added : cond (is_eq (R x q)) (Some (length xs)) (position (λ k. is_eq (R q k)) xs) ≡ position (λ k. is_eq (R q k)) (xs ++ x ∷ [])
  place_added = by_order (R x q) refl

-- ---- names

abbrev by_cmp : List ℕ → List ℕ → Bool
by_cmp name k = is_eq (slice_cmp nat_cmp name k)

by_order_or_bytes : (name : List ℕ) (names : List (List ℕ)) → position (by_cmp name) names ≡ place name names
by_order_or_bytes name names = position_alike (by_cmp name) (bytes_eq name) (is_eq-slice_cmp name) names

-- the name that is added is found at its place, and each other where it was
pub name_added : (key name : List ℕ) (names : List (List ℕ)) → place key names ≡ None →
    cond (bytes_eq key name) (Some (length names)) (place name names) ≡ place name (names ++ key ∷ [])
name_added key name names absent =
    ap (λ b. cond b (Some (length names)) (place name names)) (sym (is_eq-slice_cmp key name)) ∙
    ap (cond (by_cmp key name) (Some (length names))) (sym (by_order_or_bytes name names)) ∙
    place_added (slice_cmp nat_cmp) nat_list_cmp_total key name names (by_order_or_bytes key names ∙ absent) ∙
    by_order_or_bytes name (names ++ key ∷ [])

unlike : (bs cs ks : List ℕ) → bytes_eq bs cs ≡ false → bytes_eq bs ks ≡ true → bytes_eq cs ks ≡ false
unlike bs cs ks n y = nat_list_eq_equiv.symm cs ks ∙ sym (nat_list_eq_equiv.congr bs ks cs y) ∙ n

unlike_in_order : (bs cs ks : List ℕ) → bytes_eq bs cs ≡ false → by_cmp bs ks ≡ true → by_cmp cs ks ≡ false
unlike_in_order bs cs ks n y = is_eq-slice_cmp cs ks ∙ unlike bs cs ks n (sym (is_eq-slice_cmp bs ks) ∙ y)

module _ {X : Type 0} where
  others : (eq : Vec ℕ Global → Vec ℕ Global → Bool) (test : Vec ℕ Global → Bool) (old new : List (Vec ℕ Global × X)) → KeepsOthers eq test old new → (other : Vec ℕ Global → Bool) → IsKeyTest eq other →
      AreApart test other → lookup other new ≡ lookup other old
  unfolding KeepsOthers
  others eq test old new h = h

  abbrev named : BTreeMap (Vec ℕ Global) X → List ℕ → Option X
  named m name = get_by (λ k. slice_cmp nat_cmp name k.items) m

  -- what a map from names finds once something is put at a name
  pub found_after : (m n : BTreeMap (Vec ℕ Global) X) (key : List ℕ) (w : Option X) →
      UpdatesBy (λ x y. slice_cmp nat_cmp x.items y.items) (λ k. slice_cmp nat_cmp key k.items) m n w → (name : List ℕ) → named n name ≡ cond (bytes_eq key name) w (named m name)
  found_after m n key w h name = by (bytes_eq key name) refl
    where
      by : (b : Bool) → bytes_eq key name ≡ b → named n name ≡ cond b w (named m name)
      by true e = subst (λ l. named n l ≡ w) ((bytes_eq-Decides key name).0 e) h.1
      by false e = others _ _ m.entries n.entries h.3 (λ k. by_cmp name k.items) (λ x y. (eq_by_cmp_equiv nat_list_cmp_total).congr name x.items y.items) (λ k. unlike_in_order key name k.items e)

-- a place is below the number of names
pub place_small : (name : List ℕ) (names : List (List ℕ)) (most : ℕ) (o : Option ℕ) → o ≡ place name names → length names ≤ most → IfSome o (λ i. i < most)
place_small name names most None e h = tt
place_small name names most (Some i) e h = let w = (position-Some (bytes_eq name) names i [] (sym e)).0 in omega arith
