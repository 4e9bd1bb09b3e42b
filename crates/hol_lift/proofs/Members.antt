-- Items of lists that are taken out, put in or joined, and the hypotheses that literals deny.
use Rattle.std.proofs.Common.{◌≡◌, ℕ, zero, suc, ◌<◌, List, [], ◌∷◌, ◌++◌, map, length, Some, slice_get, refl, sym, ap, subst, ◌∙◌, inl, inr, ◌⊎◌, arith}
use Rattle.std.specs.Prelude.{slice_set}
use Rattle.std.specs.List.{remove}
use Rattle.hol_terms.specs.declared.term.Term.{Term}
use Rattle.hyp_sets.specs.Sets.{TermSet, set_of, Holds, Among}
use Rattle.hyp_sets.proofs.Members.{holds_first, in_first, in_rest, none_held}
use Rattle.tagged_lines.specs.TypedLiterals.{IsIn}
use Rattle.hol_terms.specs.declared.literal.TypedLiteral.{TypedLiteral}
use Rattle.hol_clauses.specs.Literals.{denied, allowed}
use Rattle.hol_clauses.proofs.Clauses.{allowed_more}

module _ {X : Type 0} where
  pub in_left : (xs ys : List X) (x : X) → IsIn xs x → IsIn (xs ++ ys) x
  in_left [] ys x h = absurd h
  in_left (y ∷ xs) ys x (inl e) = inl e
  in_left (y ∷ xs) ys x (inr h) = inr (in_left xs ys x h)

  pub in_right : (xs ys : List X) (x : X) → IsIn ys x → IsIn (xs ++ ys) x
  in_right [] ys x h = h
  in_right (y ∷ xs) ys x h = inr (in_right xs ys x h)

  pub in_append : (xs ys : List X) (x : X) → IsIn (xs ++ ys) x → IsIn xs x ⊎ IsIn ys x
  in_append [] ys x h = inr h
  in_append (y ∷ xs) ys x (inl e) = inl (inl e)
  in_append (y ∷ xs) ys x (inr h) = elim (in_append xs ys x h) [ inl k ↦ inl (inr k) | inr k ↦ inr k ]

  pub in_removed : (xs : List X) (i : ℕ) (x : X) → IsIn (remove xs i) x → IsIn xs x
  in_removed [] zero x h = absurd h
  in_removed [] (suc i) x h = absurd h
  in_removed (y ∷ xs) zero x h = inr h
  in_removed (y ∷ xs) (suc i) x (inl e) = inl e
  in_removed (y ∷ xs) (suc i) x (inr h) = inr (in_removed xs i x h)

  -- an item that is taken out, and the rest
  pub in_taken : (xs : List X) (i : ℕ) (y x : X) → slice_get xs i ≡ Some y → IsIn xs x → IsIn (y ∷ remove xs i) x
  in_taken [] i y x g h = absurd h
  in_taken (z ∷ xs) zero y x g (inl e) = let same : z ≡ y = cc in inl (sym same ∙ e)
  in_taken (z ∷ xs) zero y x g (inr h) = inr h
  in_taken (z ∷ xs) (suc i) y x g (inl e) = inr (inl e)
  in_taken (z ∷ xs) (suc i) y x g (inr h) = elim (in_taken xs i y x g h) [ inl e ↦ inl e | inr k ↦ inr (inr k) ]

  pub in_set : (xs : List X) (i : ℕ) (y x : X) → IsIn (slice_set xs i y) x → IsIn xs x ⊎ (y ≡ x)
  in_set [] i y x h = absurd h
  in_set (z ∷ xs) zero y x (inl e) = inr e
  in_set (z ∷ xs) zero y x (inr h) = inl (inr h)
  in_set (z ∷ xs) (suc i) y x (inl e) = inl (inl e)
  in_set (z ∷ xs) (suc i) y x (inr h) = elim (in_set xs i y x h) [ inl k ↦ inl (inr k) | inr e ↦ inr e ]

  -- what stands in place of an item, and the other items
  pub set_in : (xs : List X) (i : ℕ) (y z x : X) → slice_get xs i ≡ Some z → IsIn (y ∷ remove xs i) x → IsIn (slice_set xs i y) x
  set_in [] i y z x g h = absurd (clash g)
    where
      clash : {A : Type 0} {a : A} → slice_get [] i ≡ Some a → ⊥
      clash h = cc
  set_in (w ∷ xs) zero y z x g h = h
  set_in (w ∷ xs) (suc i) y z x g (inl e) = inr (set_in xs i y z x g (inl e))
  set_in (w ∷ xs) (suc i) y z x g (inr (inl e)) = inl e
  set_in (w ∷ xs) (suc i) y z x g (inr (inr h)) = inr (set_in xs i y z x g (inr h))

  pub in_got : (xs : List X) (i : ℕ) (x : X) → slice_get xs i ≡ Some x → IsIn xs x
  in_got [] i x g = absurd cc
  in_got (y ∷ xs) zero x g = let same : y ≡ x = cc in inl same
  in_got (y ∷ xs) (suc i) x g = inr (in_got xs i x g)

  pub got_within : (xs : List X) (i : ℕ) (x : X) → slice_get xs i ≡ Some x → i < length xs
  got_within [] i x g = absurd cc
  got_within (y ∷ xs) zero x g = omega arith
  got_within (y ∷ xs) (suc i) x g = let h = got_within xs i x g in omega (arith, h)

-- an item that stands at two places is there once one of them is taken out
pub in_other : {X : Type 0} (xs : List X) (i j : ℕ) (y x : X) → i < j → slice_get xs i ≡ Some y → slice_get xs j ≡ Some y → IsIn xs x → IsIn (remove xs j) x
in_other xs i j y x before first second h = elim (in_taken xs j y x second h) [ inl e ↦ subst (IsIn (remove xs j)) e (got_before xs i j y before first) | inr k ↦ k ]
  where
    got_before : {X : Type 0} (xs : List X) (i j : ℕ) (y : X) → i < j → slice_get xs i ≡ Some y → IsIn (remove xs j) y
    got_before [] i j y h g = absurd cc
    got_before (z ∷ xs) i zero y h g = absurd (omega (arith, h))
    got_before (z ∷ xs) zero (suc j) y h g = let same : z ≡ y = cc in inl same
    got_before (z ∷ xs) (suc i) (suc j) y h g = inr (got_before xs i j y (omega (arith, h)) g)

pub map_got : {X Y : Type 0} (f : X → Y) (xs : List X) (i : ℕ) (x : X) → slice_get xs i ≡ Some x → slice_get (map f xs) i ≡ Some (f x)
map_got f [] i x g = absurd cc
map_got f (y ∷ xs) zero x g = let same : y ≡ x = cc in ap (λ z. Some (f z)) same
map_got f (y ∷ xs) (suc i) x g = map_got f xs i x g

-- ---- denied literals

pub denied_held : (ls : List TypedLiteral) (x : Term) → Holds (set_of (map denied ls)) x → (l : TypedLiteral) × (IsIn ls l × (denied l ≡ x))
denied_held [] x h = absurd (none_held x h)
denied_held (l ∷ ls) x h =
    elim (holds_first (denied l) (map denied ls) x h) [ inl e ↦ (l, (inl refl, sym e)) | inr k ↦ (let m = denied_held ls x k in (m.0, (inr m.1.0, m.1.1))) ]

pub held_denied : (ls : List TypedLiteral) (l : TypedLiteral) → IsIn ls l → Holds (set_of (map denied ls)) (denied l)
held_denied [] l h = absurd h
held_denied (m ∷ ls) l (inl e) = in_first (denied m) (map denied ls) (denied l) (sym (ap denied e))
held_denied (m ∷ ls) l (inr h) = in_rest (denied m) (map denied ls) (denied l) (held_denied ls l h)

pub allowed_as : (p q : List TypedLiteral) (base : TermSet) → ((l : TypedLiteral) → IsIn p l → IsIn q l) → Among (allowed base p) (allowed base q)
allowed_as p q base within =
    allowed_more p q base (λ x h. let m = denied_held p x h in subst (Holds (set_of (map denied q))) m.1.1 (held_denied q m.0 (within m.0 m.1.0)))
