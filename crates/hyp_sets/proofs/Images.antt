-- Sets under a map of terms.
use Rattle.std.proofs.Common.{◌≡◌, ℕ, List, [], ◌∷◌, ◌++◌, map, refl, sym, ◌∙◌, ap, subst, Bool, true, false, not, ◌&&◌, ◌==◌, if◌then◌else◌, inl, inr}
use Rattle.std.specs.FinSet as set
use Rattle.hol_terms.specs.declared.ty.Ty.{Ty}
use Rattle.hol_terms.specs.declared.term.Term.{Term, roll-Term}
use Rattle.hol_terms.specs.declared.term.Term.TheOpen.{Term-F}
use Rattle.hol_terms.specs.Types.{is_ty}
use Rattle.hol_terms.specs.Substitution.{put_free, one_put, occurs}
use Rattle.hol_terms.proofs.TermCases.{by_cases}
use Rattle.hol_terms.proofs.Both.{both_false}
use Rattle.hol_terms.proofs.Equations.{put_free-bound, put_free-free, put_free-con, put_free-app, put_free-lam, occurs-free, occurs-app, occurs-lam}
use Rattle.hyp_sets.specs.Sets.{TermSet, set_of, Holds, Among, image, absent, absent_in}
use Rattle.hyp_sets.proofs.Members.{holds_union, in_left, in_right, holds_only, in_only, holds_first, in_first, in_rest, none_held, holds_items, in_items, same_members, all_in_each}
use Rattle.hyp_sets.proofs.Joined.{among_front, among_back, holds_append}

module _ (f : Term → Term) where
  pub holds_map : (ks : List Term) (y : Term) → Holds (set_of (map f ks)) y → (x : Term) × (Holds (set_of ks) x × (f x ≡ y))
  holds_map [] y h = absurd (none_held y h)
  holds_map (k ∷ ks) y h =
      elim (holds_first (f k) (map f ks) y h) [
        | inl e ↦ (k, (in_first k ks k refl, sym e))
        | inr m ↦ let rest = holds_map ks y m in (rest.0, (in_rest k ks rest.0 rest.1.0, rest.1.1))
      ]

  pub in_map : (ks : List Term) (x : Term) → Holds (set_of ks) x → Holds (set_of (map f ks)) (f x)
  in_map [] x h = absurd (none_held x h)
  in_map (k ∷ ks) x h = elim (holds_first k ks x h) [ inl e ↦ in_first (f k) (map f ks) (f x) (ap f e) | inr m ↦ in_rest (f k) (map f ks) (f x) (in_map ks x m) ]

  pub holds_image : (s : TermSet) (y : Term) → Holds (image f s) y → (x : Term) × (Holds s x × (f x ≡ y))
  unfolding image
  holds_image s y h = let from = holds_map (set.items s) y h in (from.0, (holds_items (λ z. true) s from.0 from.1.0, from.1.1))

  pub in_image : (s : TermSet) (x : Term) → Holds s x → Holds (image f s) (f x)
  unfolding image
  in_image s x h = in_map (set.items s) x (in_items (λ z. true) s x h)

  -- the set of a list's images is the image of its set
  pub image_set_of : (ks : List Term) → set_of (map f ks) ≡ image f (set_of ks)
  image_set_of ks =
      same_members (set_of (map f ks)) (image f (set_of ks)) (λ y h. let from = holds_map ks y h in subst (Holds (image f (set_of ks))) from.1.1 (in_image (set_of ks) from.0 from.1.0))
      (λ y h. let from = holds_image (set_of ks) y h in subst (Holds (set_of (map f ks))) from.1.1 (in_map ks from.0 from.1.0))

  -- the images of a list with a term in its middle
  image_part : (part whole : TermSet) → Among part whole → Among (image f part) (image f whole)
  image_part part whole among y m = let from = holds_image part y m in subst (Holds (image f whole)) from.1.1 (in_image whole from.0 (among from.0 from.1.0))

  pub image_in_three : (xs : List Term) (k : Term) (ys : List Term) → set.union (set_of (f k ∷ [])) (set.union (image f (set_of xs)) (image f (set_of ys))) ≡ image f (set_of (xs ++ k ∷ ys))
  image_in_three xs k ys =
      same_members (set.union (set_of (f k ∷ [])) (set.union (image f (set_of xs)) (image f (set_of ys)))) (image f (set_of (xs ++ k ∷ ys))) (λ y m.
      elim (holds_union (set_of (f k ∷ [])) (set.union (image f (set_of xs)) (image f (set_of ys))) y m) [
        | inl n ↦ subst (Holds (image f (set_of (xs ++ k ∷ ys)))) (sym (holds_only (f k) y n)) (in_image (set_of (xs ++ k ∷ ys)) k (among_back xs (k ∷ ys) k (in_first k ys k refl)))
        | inr n ↦ elim (holds_union (image f (set_of xs)) (image f (set_of ys)) y n) [
          | inl o ↦ image_part (set_of xs) (set_of (xs ++ k ∷ ys)) (among_front xs (k ∷ ys)) y o
          | inr o ↦ image_part (set_of ys) (set_of (xs ++ k ∷ ys)) (λ z p. among_back xs (k ∷ ys) z (in_rest k ys z p)) y o
        ]
      ]) (λ y m.
      let from = holds_image (set_of (xs ++ k ∷ ys)) y m in
      let one = set_of (f k ∷ []) in
      let two = set.union (image f (set_of xs)) (image f (set_of ys)) in
      subst (Holds (set.union one two)) from.1.1
      (elim (holds_append xs (k ∷ ys) from.0 from.1.0) [
        | inl n ↦ in_right one two (f from.0) (in_left (image f (set_of xs)) (image f (set_of ys)) (f from.0) (in_image (set_of xs) from.0 n))
        | inr n ↦ elim (holds_first k ys from.0 n) [
          | inl e ↦ in_left one two (f from.0) (in_only (f k) (f from.0) (ap f e))
          | inr o ↦ in_right one two (f from.0) (in_right (image f (set_of xs)) (image f (set_of ys)) (f from.0) (in_image (set_of ys) from.0 o))
        ]
      ]))

  -- a set whose terms all stay is its own image
  pub image_fixed : (s : TermSet) → ((x : Term) → Holds s x → f x ≡ x) → s ≡ image f s
  image_fixed s fixed =
      same_members s (image f s) (λ x h. subst (Holds (image f s)) (fixed x h) (in_image s x h)) (λ y h. let from = holds_image s y h in subst (Holds s) (sym (fixed from.0 from.1.0) ∙ from.1.1) from.1.0)

-- ---- a variable that doesn't occur is replaced for nothing
module _ (n : ℕ) (a : Ty) (u : Term) where
  abbrev Stays : Term → Type 0
  Stays t = occurs n a t ≡ false → put_free (one_put n a u) t ≡ t

  other : (m : ℕ) (b : Ty) (here : Bool) → here ≡ false → (if here then u else roll-Term (Term-F.Free m b)) ≡ roll-Term (Term-F.Free m b)
  other m b true h = cc
  other m b false h = refl

  stays_app : (f x : Term) → Stays f → Stays x → Stays (roll-Term (Term-F.App f x))
  stays_app f x hf hx h =
      let both = both_false (occurs n a f) (occurs n a x) (sym (occurs-app n a f x) ∙ h) in
      let left = hf both.0 in
      let right = hx both.1 in
      rw (put_free-app (one_put n a u) f x, left, right) refl

  stays_lam : (b : Ty) (t : Term) → Stays t → Stays (roll-Term (Term-F.Lam b t))
  stays_lam b t ht h = let inner = ht (sym (occurs-lam n a b t) ∙ h) in rw (put_free-lam (one_put n a u) b t, inner) refl

  pub absent_stays : (t : Term) → Stays t
  absent_stays t =
      by_cases Stays (λ i h. put_free-bound (one_put n a u) i) (λ m b h. put_free-free (one_put n a u) m b ∙ other m b (m == n && is_ty b a) (sym (occurs-free n a m b) ∙ h))
      (λ c h. put_free-con (one_put n a u) c) stays_app stays_lam t

  pub image_absent : (s : TermSet) → absent n a s ≡ true → s ≡ image (put_free (one_put n a u)) s
  image_absent s h = image_fixed (put_free (one_put n a u)) s (λ x held. absent_stays x (not_true (occurs n a x) (all_in_each (absent_in n a) s h x held)))
    where
      not_true : (b : Bool) → not b ≡ true → b ≡ false
      not_true true h = cc
      not_true false h = refl
