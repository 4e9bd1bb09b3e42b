-- What a stable sort gives is the list in order.
use Rattle.std.proofs.Common.{◌≡◌, ℕ, ◌<◌, ◌≤◌, Bool, true, false, cond, List, [], ◌∷◌, length, get_or, refl, sym, ap, ◌∙◌, arith, suc}
use Rattle.std.specs.Prelude.{filter, not, ◌&&◌, if◌then◌else◌}
use Rattle.std.specs.Cmp.{IsStrictWeakOrder}
use Rattle.std.specs.List.Sorted.{IsSortedBy, IsStableBy, ties}
use Rattle.std.proofs.lemmas.List.Sorted.{sorted_far}
use Rattle.mepo_filter.specs.Ranking.{placed, in_order}

module _ {X : Type 0} (lt : X → X → Bool) (o : IsStrictWeakOrder lt) where
  -- none of the list comes before x
  abbrev NoneBefore : X → List X → Type 0
  NoneBefore x [] = Unit {0}
  NoneBefore x (y ∷ ys) = (lt y x ≡ false) × NoneBefore x ys

  -- none comes before an earlier one
  abbrev InOrder : List X → Type 0
  InOrder [] = Unit {0}
  InOrder (x ∷ xs) = NoneBefore x xs × InOrder xs

  none_from : (x : X) (ys : List X) → ((j : ℕ) (d : X) → j < length ys → lt (get_or ys j d) x ≡ false) → NoneBefore x ys
  none_from x [] h = tt
  none_from x (y ∷ ys) h = (h 0 y (omega arith), none_from x ys (λ j d within. h (suc j) d (omega arith)))

  order_from : (xs : List X) → ((i j : ℕ) (d : X) → i ≤ j → j < length xs → lt (get_or xs j d) (get_or xs i d) ≡ false) → InOrder xs
  order_from [] h = tt
  order_from (x ∷ xs) h = (
    none_from x xs (λ j d within. h 0 (suc j) d (omega arith) (omega arith)),
    order_from xs (λ i j d order within. h (suc i) (suc j) d (omega arith) (omega arith)),
  )

  not_self : (x : X) → lt x x ≡ false
  not_self x = go (lt x x) refl
    where
      go : (b : Bool) → lt x x ≡ b → b ≡ false
      go true e = let other = o.one_way x x e in cc
      go false e = refl

  ties_self : (x : X) → ties lt x x ≡ true
  ties_self x = ap (λ b. not b && not b) (not_self x)

  ties_of : (x y : X) → lt x y ≡ false → lt y x ≡ false → ties lt x y ≡ true
  ties_of x y h k = ap (λ b. not b && not (lt y x)) h ∙ ap not k

  apart : (a b : Bool) → (not a && not b) ≡ true → (a ≡ false) × (b ≡ false)
  apart true b e = absurd (cc)
  apart false true e = absurd (cc)
  apart false false e = (refl, refl)

  -- what a filter keeps first doesn't come before the first
  kept_first : (p : X → Bool) (z : X) (zs : List X) (w : X) (rest : List X) → NoneBefore z zs → filter p zs ≡ w ∷ rest → lt w z ≡ false
  kept_first p z [] w rest none e = absurd (cc)
  kept_first p z (v ∷ vs) w rest none e = go (p v) (kept_first p z vs w rest none.1) e
    where
      go : (b : Bool) → (filter p vs ≡ w ∷ rest → lt w z ≡ false) → cond b (v ∷ filter p vs) (filter p vs) ≡ w ∷ rest → lt w z ≡ false
      go true more k = let same : v ≡ w = cc in ap (λ x. lt x z) (sym same) ∙ none.0
      go false more k = more k

  first_not_before : (p : X → Bool) (z : X) (zs : List X) (w : X) (rest : List X) → NoneBefore z zs → filter p (z ∷ zs) ≡ w ∷ rest → lt w z ≡ false
  first_not_before p z zs w rest none e = go (p z) e
    where
      go : (b : Bool) → cond b (z ∷ filter p zs) (filter p zs) ≡ w ∷ rest → lt w z ≡ false
      go true k = let same : z ≡ w = cc in ap (λ x. lt x z) (sym same) ∙ not_self z
      go false k = kept_first p z zs w rest none k

  filter_self : (x : X) (xs : List X) → filter (ties lt x) (x ∷ xs) ≡ x ∷ filter (ties lt x) xs
  filter_self x xs = ap (λ b. cond b (x ∷ filter (ties lt x) xs) (filter (ties lt x) xs)) (ties_self x)

  tails : (b : Bool) (y : X) (ys zs : List X) → cond b (y ∷ ys) ys ≡ cond b (y ∷ zs) zs → ys ≡ zs
  tails true y ys zs e = cc
  tails false y ys zs e = e

  -- two lists in order that tie alike are one
  unique : (ys zs : List X) → InOrder ys → InOrder zs → ((x : X) → filter (ties lt x) ys ≡ filter (ties lt x) zs) → ys ≡ zs
  unique [] [] s t h = refl
  unique [] (z ∷ zs) s t h = let e : [] ≡ z ∷ filter (ties lt z) zs = h z ∙ filter_self z zs in absurd (cc)
  unique (y ∷ ys) [] s t h = let e : y ∷ filter (ties lt y) ys ≡ [] = sym (filter_self y ys) ∙ h y in absurd (cc)
  unique (y ∷ ys) (z ∷ zs) s t h =
      let one = first_not_before (ties lt y) z zs y (filter (ties lt y) ys) t.0 (sym (h y) ∙ filter_self y ys) in
      let other = first_not_before (ties lt z) y ys z (filter (ties lt z) zs) s.0 (h z ∙ filter_self z zs) in
      let first : y ∷ filter (ties lt y) ys ≡ z ∷ filter (ties lt y) zs =
      sym (filter_self y ys) ∙ h y ∙ ap (λ b. cond b (z ∷ filter (ties lt y) zs) (filter (ties lt y) zs)) (ties_of y z one other) in
      let same : y ≡ z = cc in
      let rest : ys ≡ zs = unique ys zs s.1 t.1 (λ x. tails (ties lt x y) y (filter (ties lt x) ys) (filter (ties lt x) zs)
      (h x ∙ ap (λ w. cond (ties lt x w) (w ∷ filter (ties lt x) zs) (filter (ties lt x) zs)) (sym same))) in
      cc

  none_placed : (x y : X) (ys : List X) → NoneBefore y ys → lt x y ≡ false → NoneBefore y (placed lt x ys)
  none_placed x y [] none h = (h, tt)
  none_placed x y (v ∷ vs) none h = go (lt v x) (none_placed x y vs none.1 h)
    where
      go : (b : Bool) → NoneBefore y (placed lt x vs) → NoneBefore y (if b then v ∷ placed lt x vs else x ∷ v ∷ vs)
      go true more = (none.0, more)
      go false more = (h, none)

  none_further : (x y : X) (ys : List X) → lt y x ≡ false → NoneBefore y ys → NoneBefore x ys
  none_further x y [] h none = tt
  none_further x y (v ∷ vs) h none = (o.chain v y x none.0 h, none_further x y vs h none.1)

  order_placed : (x : X) (ys : List X) → InOrder ys → InOrder (placed lt x ys)
  order_placed x [] s = (tt, tt)
  order_placed x (y ∷ ys) s = go (lt y x) refl (order_placed x ys s.1)
    where
      go : (b : Bool) → lt y x ≡ b → InOrder (placed lt x ys) → InOrder (if b then y ∷ placed lt x ys else x ∷ y ∷ ys)
      go true e more = (none_placed x y ys s.0 (o.one_way y x e), more)
      go false e more = ((e, none_further x y ys e s.0), s)

  order_in_order : (xs : List X) → InOrder (in_order lt xs)
  order_in_order [] = tt
  order_in_order (x ∷ xs) = order_placed x (in_order lt xs) (order_in_order xs)

  swapped : (a b : Bool) (x y : X) (ys : List X) → (a ≡ true → b ≡ true → ⊥) →
      cond a (y ∷ cond b (x ∷ ys) ys) (cond b (x ∷ ys) ys) ≡ cond b (x ∷ cond a (y ∷ ys) ys) (cond a (y ∷ ys) ys)
  swapped true true x y ys h = absurd (h refl refl)
  swapped true false x y ys h = refl
  swapped false true x y ys h = refl
  swapped false false x y ys h = refl

  stable_placed : (w x : X) (ys : List X) → filter (ties lt w) (placed lt x ys) ≡ filter (ties lt w) (x ∷ ys)
  stable_placed w x [] = refl
  stable_placed w x (y ∷ ys) = go (lt y x) refl (stable_placed w x ys)
    where
      go : (b : Bool) → lt y x ≡ b → filter (ties lt w) (placed lt x ys) ≡ filter (ties lt w) (x ∷ ys) → filter (ties lt w) (if b then y ∷ placed lt x ys else x ∷ y ∷ ys) ≡ filter (ties lt w) (x ∷ y ∷ ys)
      go true e more =
          ap (λ l. cond (ties lt w y) (y ∷ l) l) more
          ∙ swapped (ties lt w y) (ties lt w x) x y (filter (ties lt w) ys) (λ h k.
          let front = apart (lt w y) (lt y w) h in
          let back = apart (lt w x) (lt x w) k in
          let not_so : lt y x ≡ false = o.chain y w x front.1 back.0 in cc)
      go false e more = refl

  stable_in_order : (w : X) (xs : List X) → filter (ties lt w) (in_order lt xs) ≡ filter (ties lt w) xs
  stable_in_order w [] = refl
  stable_in_order w (x ∷ xs) =
      stable_placed w x (in_order lt xs) ∙ ap (λ l. cond (ties lt w x) (x ∷ l) l) (stable_in_order w xs)

  pub sorted_is_in_order : (xs ys : List X) → IsSortedBy lt ys → IsStableBy lt xs ys → ys ≡ in_order lt xs
  sorted_is_in_order xs ys up stable =
      unique ys (in_order lt xs) (order_from ys (sorted_far lt o ys up)) (order_in_order xs) (λ x. stable x ∙ sym (stable_in_order x xs))
