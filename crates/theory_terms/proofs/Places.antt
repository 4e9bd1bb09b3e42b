-- Places of names in lists.
use Rattle.std.proofs.Common.{◌≡◌, ℕ, suc, ◌+◌, Bool, true, false, cond, nat_lt, List, [], ◌∷◌, map, length, refl, sym, ap, ◌∙◌, arith, add-one, subst, ◌<◌, get_or}
use Rattle.std.specs.Prelude.{not, Option, Some, None, is_some, position, slice_get, if◌then◌else◌}
use Rattle.std.specs.List.{prefix_len, list_any, position_or_len}
use Rattle.std.specs.Option.{option_map}
use Rattle.std.specs.Str.{bytes_eq}
use Rattle.std.proofs.lemmas.Bool.Decides.{nat_tests}
use Rattle.std.proofs.lemmas.Grind.{common_steps}
use Rattle.std.proofs.lemmas.List.{length-map}
use Rattle.std.proofs.lemmas.Option.{slice_get-get_or}
use Rattle.hol_terms.specs.Types.{bool_ty}
use Rattle.std.proofs.lemmas.List.Quantifiers.{position-Some}
use Rattle.hol_terms.specs.declared.ty.Ty.{Ty}
use Rattle.theory_terms.specs.declared.decl.Decl.{Decl}
use Rattle.theory_terms.specs.Words.{place}
use Rattle.theory_terms.specs.Signature.{found, further}

-- ---- the first item that passes a test

module _ {X Y : Type 0} (f : X → Y) (p : Y → Bool) where
  prefix_map : (xs : List X) → prefix_len (λ y. not (p y)) (map f xs) ≡ prefix_len (λ x. not (p (f x))) xs
  prefix_map [] = refl
  prefix_map (x ∷ xs) = let rest = prefix_map xs in grind (arith, common_steps)

  pub position_map : (xs : List X) → position p (map f xs) ≡ position (λ x. p (f x)) xs
  position_map xs = let n = length-map xs f in let m = prefix_map xs in cc

module _ {X : Type 0} (p : X → Bool) where
  shifted : (k n : ℕ) → cond (nat_lt (1 + k) (suc n)) (Some (1 + k)) None ≡ option_map (λ i. i + 1) (cond (nat_lt k n) (Some k) None)
  shifted k n = grind (arith, nat_tests)

  pub at_first : (x : X) (xs : List X) → p x ≡ true → position p (x ∷ xs) ≡ Some 0
  at_first x xs h = grind (arith, nat_tests, common_steps)

  pub at_rest : (x : X) (xs : List X) → p x ≡ false → position p (x ∷ xs) ≡ option_map (λ i. i + 1) (position p xs)
  at_rest x xs h = rw h (shifted (position_or_len p xs) (length xs))

  none_before : (o : Option ℕ) → option_map (λ i. i + 1) o ≡ None → o ≡ None
  none_before None h = refl
  none_before (Some i) h = cc

  none_step : (x : X) (xs : List X) (b : Bool) → p x ≡ b → position p (x ∷ xs) ≡ None → (position p xs ≡ None → list_any p xs ≡ false) → list_any p (x ∷ xs) ≡ false
  none_step x xs true e h rest = absurd (let first = at_first x xs e in cc)
  none_step x xs false e h rest = rw e (rest (none_before (position p xs) (sym (at_rest x xs e) ∙ h)))

  pub none_any : (xs : List X) → position p xs ≡ None → list_any p xs ≡ false
  none_any [] h = refl
  none_any (x ∷ xs) h = none_step x xs (p x) refl h (none_any xs)

-- ---- names and declarations

module _ (name : List ℕ) where
  further_place : (o : Option (ℕ × Ty)) → option_map (λ v. v.0) (further o) ≡ option_map (λ i. i + 1) (option_map (λ v. v.0) o)
  further_place None = refl
  further_place (Some v) = refl

  place_step : (d : Decl) (ds : List Decl) (b : Bool) → bytes_eq name d.name ≡ b → place name (map (λ d. d.name) ds) ≡ option_map (λ v. v.0) (found name ds) →
      place name (map (λ d. d.name) (d ∷ ds)) ≡ option_map (λ v. v.0) (if b then Some (0, d.ty) else further (found name ds))
  place_step d ds true e rest = at_first (bytes_eq name) d.name (map (λ d. d.name) ds) e
  place_step d ds false e rest = at_rest (bytes_eq name) d.name (map (λ d. d.name) ds) e ∙ ap (option_map (λ i. i + 1)) rest ∙ sym (further_place (found name ds))

  -- the first declaration of the name has the place of the name among the names
  pub place_found : (ds : List Decl) → place name (map (λ d. d.name) ds) ≡ option_map (λ v. v.0) (found name ds)
  place_found [] = refl
  place_found (d ∷ ds) = place_step d ds (bytes_eq name d.name) refl (place_found ds)

  type_more : (d : Decl) (ds : List Decl) (i : ℕ) → option_map (λ d. d.ty) (slice_get (d ∷ ds) (i + 1)) ≡ option_map (λ d. d.ty) (slice_get ds i)
  type_more d ds i = rw add-one refl

  type_rest : (d : Decl) (ds : List Decl) (o : Option (ℕ × Ty)) (v : ℕ × Ty) →
      ((w : ℕ × Ty) → o ≡ Some w → option_map (λ d. d.ty) (slice_get ds w.0) ≡ Some w.1) → further o ≡ Some v → option_map (λ d. d.ty) (slice_get (d ∷ ds) v.0) ≡ Some v.1
  type_rest d ds None v rest h = cc
  type_rest d ds (Some w) v rest h =
      let e : (w.0 + 1, w.1) ≡ v = cc in subst (λ u. option_map (λ d. d.ty) (slice_get (d ∷ ds) u.0) ≡ Some u.1) e (type_more d ds w.0 ∙ rest w refl)

  type_step : (d : Decl) (ds : List Decl) (b : Bool) (v : ℕ × Ty) →
      ((w : ℕ × Ty) → found name ds ≡ Some w → option_map (λ d. d.ty) (slice_get ds w.0) ≡ Some w.1) →
      (if b then Some (0, d.ty) else further (found name ds)) ≡ Some v → option_map (λ d. d.ty) (slice_get (d ∷ ds) v.0) ≡ Some v.1
  type_step d ds true v rest h = let e : (0, d.ty) ≡ v = cc in subst (λ u. option_map (λ d. d.ty) (slice_get (d ∷ ds) u.0) ≡ Some u.1) e refl
  type_step d ds false v rest h = type_rest d ds (found name ds) v rest h

  -- and has the type that is found
  pub found_type : (ds : List Decl) (v : ℕ × Ty) → found name ds ≡ Some v → option_map (λ d. d.ty) (slice_get ds v.0) ≡ Some v.1
  found_type [] v h = cc
  found_type (d ∷ ds) v h = type_step d ds (bytes_eq name d.name) v (found_type ds) h

  found_cases : (ds : List Decl) (i : ℕ) (d : Decl) (o : Option (ℕ × Ty)) → found name ds ≡ o → option_map (λ v. v.0) o ≡ Some i → slice_get ds i ≡ Some d → o ≡ Some (i, d.ty)
  found_cases ds i d None h e g = cc
  found_cases ds i d (Some v) h e g =
      let n : v.0 ≡ i = cc in
      let a : option_map (λ d. d.ty) (slice_get ds i) ≡ Some v.1 = subst (λ k. option_map (λ d. d.ty) (slice_get ds k) ≡ Some v.1) n (found_type ds v h) in
      let t : Some d.ty ≡ Some v.1 = sym (ap (option_map (λ d. d.ty)) g) ∙ a in
      let k : v.1 ≡ d.ty = cc in λ j. Some (n j, k j)

  -- the declaration at the name's place is the one that is found
  pub found_at : (ds : List Decl) (i : ℕ) (d : Decl) → place name (map (λ d. d.name) ds) ≡ Some i → slice_get ds i ≡ Some d → found name ds ≡ Some (i, d.ty)
  found_at ds i d h g = found_cases ds i d (found name ds) refl (sym (place_found ds) ∙ h) g

  none_first : (o : Option (ℕ × Ty)) → option_map (λ v. v.0) o ≡ None → o ≡ None
  none_first None h = refl
  none_first (Some v) h = cc

  pub found_none : (ds : List Decl) → place name (map (λ d. d.name) ds) ≡ None → found name ds ≡ None
  found_none ds h = none_first (found name ds) (sym (place_found ds) ∙ h)

  pub place_none : (ds : List Decl) → found name ds ≡ None → place name (map (λ d. d.name) ds) ≡ None
  place_none ds h = place_found ds ∙ ap (option_map (λ v. v.0)) h

  some_first : (o : Option (ℕ × Ty)) → is_some (option_map (λ v. v.0) o) ≡ is_some o
  some_first None = refl
  some_first (Some v) = refl

  pub place_is : (ds : List Decl) → is_some (place name (map (λ d. d.name) ds)) ≡ is_some (found name ds)
  place_is ds = ap is_some (place_found ds) ∙ some_first (found name ds)

  place_within : (ds : List Decl) (i : ℕ) → place name (map (λ d. d.name) ds) ≡ Some i → i < length ds
  place_within ds i h = let w = (position-Some (bytes_eq name) (map (λ d. d.name) ds) i [] h).0 in omega (arith, length-map ds (λ d. d.name))

  -- there is a declaration at the name's place
  pub place_held : (ds : List Decl) (i : ℕ) → place name (map (λ d. d.name) ds) ≡ Some i → slice_get ds i ≡ None → ⊥
  place_held ds i h g =
      let d : Decl = record { name = []; ty = bool_ty } in
      let e : Some (get_or ds i d) ≡ None = sym (slice_get-get_or ds i d (place_within ds i h)) ∙ g in cc
