-- Elements of filtered and ranked lists.
use Rattle.std.proofs.Common.{◌≡◌, Bool, true, false, cond, List, [], ◌∷◌, refl, sym, ap, ◌∙◌, arith, zero, suc, inl, inr, subst}
use Rattle.std.specs.Prelude.{filter, map, ◌||◌, ◌⊎◌, Contains}
use Rattle.std.specs.List.{list_any}
use Rattle.mepo_filter.specs.Ranking.{placed, in_order}

-- the element is in the list
abbrev pub In : {X : Type 0} → X → List X → Type 0
In x [] = ⊥
In x (y ∷ ys) = (y ≡ x) ⊎ In x ys

pub in_from : {X : Type 0} (x : X) (xs : List X) → Contains xs x → In x xs
in_from x [] (k, within, is) = absurd (omega arith)
in_from x (y ∷ ys) (zero, within, is) = inl is
in_from x (y ∷ ys) (suc k, within, is) = inr (in_from x ys (k, omega arith, is))

module _ {X : Type 0} (p : X → Bool) where
  pub in_filter : (x : X) (xs : List X) → In x xs → p x ≡ true → In x (filter p xs)
  in_filter x [] i h = i
  in_filter x (y ∷ ys) (inl e) h = subst (λ b. In x (cond b (y ∷ filter p ys) (filter p ys))) (sym (ap p e ∙ h)) (inl e)
  in_filter x (y ∷ ys) (inr i) h = go (p y) (in_filter x ys i h)
    where
      go : (b : Bool) → In x (filter p ys) → In x (cond b (y ∷ filter p ys) (filter p ys))
      go true j = inr j
      go false j = j

  -- what a filter keeps is in the list, and passes
  pub of_filter : (x : X) (xs : List X) → In x (filter p xs) → In x xs × (p x ≡ true)
  of_filter x [] i = absurd i
  of_filter x (y ∷ ys) i = go (p y) refl (of_filter x ys) i
    where
      go : (b : Bool) → p y ≡ b → (In x (filter p ys) → In x ys × (p x ≡ true)) → In x (cond b (y ∷ filter p ys) (filter p ys)) → In x (y ∷ ys) × (p x ≡ true)
      go true e more (inl same) = (inl same, ap p (sym same) ∙ e)
      go true e more (inr j) = (inr (more j).0, (more j).1)
      go false e more j = (inr (more j).0, (more j).1)

  -- an element passes
  pub any_from : (x : X) (xs : List X) → In x xs → p x ≡ true → list_any p xs ≡ true
  any_from x [] i h = absurd i
  any_from x (y ∷ ys) (inl e) h = ap (λ b. b || list_any p ys) (ap p e ∙ h)
  any_from x (y ∷ ys) (inr i) h = go (p y) (any_from x ys i h)
    where
      go : (b : Bool) → list_any p ys ≡ true → (b || list_any p ys) ≡ true
      go true e = refl
      go false e = e

  pub of_any : (xs : List X) → list_any p xs ≡ true → (x : X) × In x xs × (p x ≡ true)
  of_any [] e = absurd (cc)
  of_any (y ∷ ys) e = go (p y) refl (of_any ys) e
    where
      go : (b : Bool) → p y ≡ b → (list_any p ys ≡ true → (x : X) × In x ys × (p x ≡ true)) → (b || list_any p ys) ≡ true → (x : X) × In x (y ∷ ys) × (p x ≡ true)
      go true is more h = (y, inl refl, is)
      go false is more h = let rest = more h in (rest.0, inr rest.1, rest.2)

  swap : (a b c : Bool) → (a || (b || c)) ≡ (b || (a || c))
  swap true true c = refl
  swap true false c = refl
  swap false b c = refl

  any_placed : (lt : X → X → Bool) (x : X) (ys : List X) → list_any p (placed lt x ys) ≡ (p x || list_any p ys)
  any_placed lt x [] = refl
  any_placed lt x (y ∷ ys) = go (lt y x) (any_placed lt x ys)
    where
      go : (b : Bool) → list_any p (placed lt x ys) ≡ (p x || list_any p ys) →
          list_any p (cond b (y ∷ placed lt x ys) (x ∷ y ∷ ys)) ≡ (p x || (p y || list_any p ys))
      go true e = ap (λ b. p y || b) e ∙ swap (p y) (p x) (list_any p ys)
      go false e = refl

  -- a list in order has the same elements
  pub any_in_order : (lt : X → X → Bool) (xs : List X) → list_any p (in_order lt xs) ≡ list_any p xs
  any_in_order lt [] = refl
  any_in_order lt (x ∷ xs) = any_placed lt x (in_order lt xs) ∙ ap (λ b. p x || b) (any_in_order lt xs)

pub any_map : {X Y : Type 0} (p : Y → Bool) (f : X → Y) (xs : List X) → list_any p (map f xs) ≡ list_any (λ x. p (f x)) xs
any_map p f [] = refl
any_map p f (x ∷ xs) = ap (λ b. p (f x) || b) (any_map p f xs)

pub or-left : (a b : Bool) → a ≡ true → (a || b) ≡ true
or-left a b e = ap (λ x. x || b) e

pub or-right : (a b : Bool) → b ≡ true → (a || b) ≡ true
or-right true b e = refl
or-right false b e = e

pub or-cases : (a b : Bool) → (a || b) ≡ true → (a ≡ true) ⊎ (b ≡ true)
or-cases true b e = inl refl
or-cases false b e = inr e

pub cases : (b : Bool) → (b ≡ true) ⊎ (b ≡ false)
cases true = inl refl
cases false = inr refl
