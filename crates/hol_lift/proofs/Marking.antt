-- Marks of wanted lines.
use Rattle.std.proofs.Common.{◌≡◌, ℕ, zero, suc, ◌+◌, ◌<◌, ◌≤◌, Bool, true, false, ◌==◌, List, [], ◌∷◌, ◌++◌, length, Some, slice_get, refl, sym, ap, subst, ◌∙◌, inl, inr, ◌⊎◌, arith}
use Rattle.std.specs.Prelude.{slice_set}
use Rattle.fo_terms.proofs.Substitution.{equal_true, equal_from}
use Rattle.fo_infer.specs.declared.refutation.Line.{Line}
use Rattle.fo_infer.specs.declared.refutation.Origin.{Origin}
use Rattle.tagged_lines.specs.TypedLiterals.{IsIn}
use Rattle.hol_lift.specs.inner.Lifting.{parents, IsMarked, AreOrdered, AreWanted, Marks}
use Rattle.hol_lift.proofs.Members.{got_within, in_append, in_left, in_right}

-- ---- items of lists

pub set_length : (xs : List Bool) (i : ℕ) (x : Bool) → length (slice_set xs i x) ≡ length xs
set_length [] i x = refl
set_length (y ∷ xs) zero x = refl
set_length (y ∷ xs) (suc i) x = ap suc (set_length xs i x)

pub get_left : {X : Type 0} (xs ys : List X) (i : ℕ) (x : X) → slice_get xs i ≡ Some x → slice_get (xs ++ ys) i ≡ Some x
get_left [] ys i x h = absurd cc
get_left (y ∷ xs) ys zero x h = h
get_left (y ∷ xs) ys (suc i) x h = get_left xs ys i x h

pub get_end : {X : Type 0} (xs : List X) (x : X) (i : ℕ) → i ≡ length xs → slice_get (xs ++ x ∷ []) i ≡ Some x
get_end [] x zero h = refl
get_end [] x (suc i) h = absurd (omega (arith, h))
get_end (y ∷ xs) x zero h = absurd (omega (arith, h))
get_end (y ∷ xs) x (suc i) h = get_end xs x i (omega (arith, h))

pub got_item : {X : Type 0} (xs : List X) (i : ℕ) → i < length xs → (x : X) × (slice_get xs i ≡ Some x)
got_item [] i h = absurd (omega (arith, h))
got_item (x ∷ xs) zero h = (x, refl)
got_item (x ∷ xs) (suc i) h = got_item xs i (omega (arith, h))

-- ---- the last mark

pub record Begun (count : ℕ) (out : List Bool) (i : ℕ) : Type 0 where
  pub size : length out ≡ i
  pub last : (k : ℕ) → k < i → count ≡ suc k → slice_get out k ≡ Some true

pub begun_start : (count : ℕ) → Begun count [] 0
begun_start count = record { size = refl; last = λ k h e. absurd (omega (arith, h)) }

pub begun_step : (count i : ℕ) (out next : List Bool) → Begun count out i → next ≡ out ++ (i + 1 == count) ∷ [] → Begun count next (i + 1)
begun_step count i out next b is = subst (λ z. Begun count z (i + 1)) (sym is) (record {
  size = longer out (i + 1 == count) ∙ ap (λ n. n + 1) b.size;
  last = λ k h e. by_place k (k == i) refl h e;
}) where
  longer : (xs : List Bool) (x : Bool) → length (xs ++ x ∷ []) ≡ length xs + 1
  longer [] x = refl
  longer (y ∷ xs) x = let rest = longer xs x in omega (arith, rest)

  by_place : (k : ℕ) (test : Bool) → (k == i) ≡ test → k < i + 1 → count ≡ suc k → slice_get (out ++ (i + 1 == count) ∷ []) k ≡ Some true
  by_place k true t h e =
      let same : k ≡ i = equal_from k i t in
      let whole : i + 1 ≡ count = omega (arith, e, same) in
      get_end out (i + 1 == count) k (same ∙ sym b.size) ∙ ap Some (subst (λ z. (i + 1 == z) ≡ true) whole (equal_true (i + 1)))
  by_place k false t h e = get_left out ((i + 1 == count) ∷ []) k true (b.last k (apart k t h) e)
    where
      apart : (k : ℕ) → (k == i) ≡ false → k < i + 1 → k < i
      apart k t h = grind (arith, t, h)

pub begun_end : (count i : ℕ) (out : List Bool) → count ≤ i → i ≤ count → Begun count out i → (length out ≡ count) × ((k : ℕ) → count ≡ suc k → IsMarked out k)
begun_end count i out low high b = (b.size ∙ omega (arith, low, high), λ k e. b.last k (omega (arith, low, e)) e)

-- ---- marks that are added

kept_set : (xs : List Bool) (i j : ℕ) → IsMarked xs j → IsMarked (slice_set xs i true) j
kept_set [] i j h = absurd cc
kept_set (x ∷ xs) zero zero h = refl
kept_set (x ∷ xs) zero (suc j) h = h
kept_set (x ∷ xs) (suc i) zero h = h
kept_set (x ∷ xs) (suc i) (suc j) h = kept_set xs i j h

added_set : (xs : List Bool) (i : ℕ) → i < length xs → IsMarked (slice_set xs i true) i
added_set [] i h = absurd (omega (arith, h))
added_set (x ∷ xs) zero h = refl
added_set (x ∷ xs) (suc i) h = added_set xs i (omega (arith, h))

only_set : (xs : List Bool) (i j : ℕ) → IsMarked (slice_set xs i true) j → IsMarked xs j ⊎ (i ≡ j)
only_set [] i j h = inl h
only_set (x ∷ xs) zero zero h = inr refl
only_set (x ∷ xs) zero (suc j) h = inl h
only_set (x ∷ xs) (suc i) zero h = inl h
only_set (x ∷ xs) (suc i) (suc j) h = elim (only_set xs i j h) [ inl k ↦ inl k | inr e ↦ inr (ap suc e) ]

pub marks_none : (xs ys : List Bool) → ys ≡ xs → Marks xs ys []
marks_none xs ys is = record { count = ap length is; kept = λ i h. ap (λ z. slice_get z i) is ∙ h; added = λ i k. absurd k; only = λ i h. inl (ap (λ z. slice_get z i) (sym is) ∙ h) }

pub marks_one : (old new : List Bool) (i : ℕ) → i < length old → new ≡ slice_set old i true → Marks old new (i ∷ [])
marks_one old new i within is = subst (λ z. Marks old z (i ∷ [])) (sym is) (record {
  count = set_length old i true;
  kept = λ j h. kept_set old i j h;
  added = added;
  only = λ j h. elim (only_set old i j h) [ inl k ↦ inl k | inr e ↦ inr (inl e) ];
}) where
  added : (j : ℕ) → IsIn (i ∷ []) j → IsMarked (slice_set old i true) j
  added j (inl e) = subst (IsMarked (slice_set old i true)) e (added_set old i within)
  added j (inr k) = absurd k

pub marks_both : (old mid new : List Bool) (ps qs : List ℕ) → Marks old mid ps → Marks mid new qs → Marks old new (ps ++ qs)
marks_both old mid new ps qs m n = record {
  count = n.count ∙ m.count;
  kept = λ i h. n.kept i (m.kept i h);
  added = λ i h. elim (in_append ps qs i h) [ inl k ↦ n.kept i (m.added i k) | inr k ↦ n.added i k ];
  only = λ i h. elim (n.only i h) [ inl k ↦ (elim (m.only i k) [ inl a ↦ inl a | inr b ↦ inr (in_left ps qs i b) ]) | inr k ↦ inr (in_right ps qs i k) ];
}

pub marks_at : (old new : List Bool) (o : Origin) (ps : List ℕ) → parents o ≡ ps → Marks old new ps → Marks old new (parents o)
marks_at old new o ps is m = subst (Marks old new) (sym is) m

pub within_at : (o : Origin) (ps : List ℕ) (n i : ℕ) → parents o ≡ ps → ((j : ℕ) → IsIn (parents o) j → j < n) → IsIn ps i → i < n
within_at o ps n i is h k = h i (subst (λ l. IsIn l i) (sym is) k)

pub within_set : (old new : List Bool) (i j : ℕ) → new ≡ slice_set old i true → j < length old → j < length new
within_set old new i j is h = subst (λ n. j < n) (sym (ap length is ∙ set_length old i true)) h

-- ---- the walk back

pub record Walked (lines : List Line) (marks : List Bool) (back : ℕ) : Type 0 where
  pub count : length marks ≡ length lines
  pub last : (k : ℕ) → length lines ≡ suc k → IsMarked marks k
  pub closed : (i : ℕ) (l : Line) → length lines ≤ i + back → slice_get lines i ≡ Some l → IsMarked marks i → (j : ℕ) → IsIn (parents l.origin) j → IsMarked marks j

pub walked_start : (lines : List Line) (marks : List Bool) → length marks ≡ length lines → ((k : ℕ) → length lines ≡ suc k → IsMarked marks k) → Walked lines marks 0
walked_start lines marks count last = record { count = count; last = last; closed = λ i l far got m j k. (let h = got_within lines i l got in absurd (omega (arith, far, h))) }

some_same : {X : Type 0} (x y : X) → Some x ≡ Some y → x ≡ y
some_same x y h = cc

module _ (lines : List Line) (marks new : List Bool) (back k : ℕ) (w : Walked lines marks back) (place : k + back + 1 ≡ length lines) (l : Line) (got : slice_get lines k ≡ Some l) (own : Bool) (own_is : slice_get marks k ≡ Some own)
    (ordered : AreOrdered lines) (yes : own ≡ true → Marks marks new (parents l.origin)) (no : own ≡ false → new ≡ marks) where
  walked_as : (test : Bool) → own ≡ test → Walked lines new (back + 1)
  walked_as false e = subst (λ z. Walked lines z (back + 1)) (sym (no e)) (record { count = w.count; last = w.last; closed = λ i m far g h. by_place i m far g h (i == k) refl })
    where
      clash : (b : Bool) → b ≡ false → b ≡ true → ⊥
      clash b x y = cc

      by_place : (i : ℕ) (m : Line) → length lines ≤ i + (back + 1) → slice_get lines i ≡ Some m → IsMarked marks i → (test : Bool) → (i == k) ≡ test → (j : ℕ) → IsIn (parents m.origin) j → IsMarked marks j
      by_place i m far g h true t = absurd (clash own e (some_same own true (sym own_is ∙ ap (slice_get marks) (sym (equal_from i k t)) ∙ h)))
      by_place i m far g h false t = w.closed i m (grind (arith, t, far, place)) g h
  walked_as true e = record { count = s.count ∙ w.count; last = λ n h. s.kept n (w.last n h); closed = λ i m far g h. by_place i m far g (s.only i h) (i == k) refl }
    where
      s : Marks marks new (parents l.origin)
      s = yes e

      by_place : (i : ℕ) (m : Line) → length lines ≤ i + (back + 1) → slice_get lines i ≡ Some m → IsMarked marks i ⊎ IsIn (parents l.origin) i → (test : Bool) → (i == k) ≡ test → (j : ℕ) → IsIn (parents m.origin) j → IsMarked new j
      by_place i m far g h true t j a =
          let same : m ≡ l = some_same m l (sym g ∙ ap (slice_get lines) (equal_from i k t) ∙ got) in
          s.added j (subst (λ z. IsIn (parents z.origin) j) same a)
      by_place i m far g (inl h) false t j a = s.kept j (w.closed i m (grind (arith, t, far, place)) g h j a)
      by_place i m far g (inr p) false t j a = let early = ordered k l got i p in absurd (omega (arith, early, far, place))

  pub walked_step : Walked lines new (back + 1)
  walked_step = walked_as own refl

pub walked_end : (lines : List Line) (marks : List Bool) (back : ℕ) → length lines ≤ back → Walked lines marks back → AreWanted lines marks
walked_end lines marks back far w = record { count = w.count; last = w.last; closed = λ i l g h. w.closed i l (omega (arith, far)) g h }
