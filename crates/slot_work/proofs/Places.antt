-- Places of the items that pass.
use Rattle.std.proofs.Common.{◌≡◌, ◌∙◌, ℕ, zero, suc, ◌+◌, ◌<◌, ◌≤◌, Bool, true, false, IsTrue, List, [], ◌∷◌, ◌++◌, length, map, drop, get_or, slice_get, Some, None, if◌then◌else◌, refl, sym, ap, subst, append_assoc, arith, add-one}
use Rattle.std.specs.Prelude.{All}
use Rattle.std.proofs.lemmas.List.{append-nil, drop_more}
use Rattle.std.proofs.lemmas.List.Elements.{All-cons}
use Rattle.std.proofs.lemmas.Option.{get_or_from_slice_get}
use Rattle.fact_minimise.specs.Sublists.{IsSublist, none, with_first, without_first}
use Rattle.slot_work.specs.Visible.{places_from}

-- an item at each place
pub there : {X : Type 0} (xs : List X) (i : ℕ) → i < length xs → (x : X) × (slice_get xs i ≡ Some x)
there [] i lt = absurd (omega arith)
there (x ∷ xs) zero lt = (x, refl)
there (x ∷ xs) (suc i) lt = there xs i (omega arith)

-- one more item is looked at
pub places_more : {X : Type 0} (p : X → Bool) (xs : List X) (i : ℕ) (x : X) (out : List ℕ) (asked : Bool) → i < length xs → slice_get xs i ≡ Some x → asked ≡ p x →
    (out ++ (if asked then i ∷ [] else [])) ++ places_from (i + 1) p (drop (i + 1) xs) ≡ out ++ places_from i p (drop i xs)
places_more p xs i x out asked lt at is =
    let item : get_or xs i x ≡ x = get_or_from_slice_get xs i x x at in
    placed asked is ∙ sym (ap (λ l. out ++ places_from i p l) (drop_more xs i x lt ∙ ap (λ y. y ∷ drop (i + 1) xs) item))
  where
    placed : (b : Bool) → b ≡ p x → (out ++ (if b then i ∷ [] else [])) ++ places_from (i + 1) p (drop (i + 1) xs) ≡ out ++ places_from i p (x ∷ drop (i + 1) xs)
    placed true e = append_assoc out (i ∷ []) _ ∙ ap (λ b. out ++ (if b then i ∷ places_from (i + 1) p (drop (i + 1) xs) else places_from (i + 1) p (drop (i + 1) xs))) e
    placed false e = ap (λ l. l ++ places_from (i + 1) p (drop (i + 1) xs)) (append-nil out) ∙ ap (λ b. out ++ (if b then i ∷ places_from (i + 1) p (drop (i + 1) xs) else places_from (i + 1) p (drop (i + 1) xs))) e

-- all items were looked at
pub places_done : {X : Type 0} (p : X → Bool) (xs : List X) (i : ℕ) (out all : List ℕ) → length xs ≤ i → out ++ places_from i p (drop i xs) ≡ all → out ≡ all
places_done p xs i out all le h = sym (append-nil out) ∙ ap (λ l. out ++ places_from i p l) (sym (drop_all xs i le)) ∙ h
  where
    drop_all : {X : Type 0} (xs : List X) (i : ℕ) → length xs ≤ i → drop i xs ≡ []
    drop_all [] zero le = refl
    drop_all [] (suc i) le = refl
    drop_all (x ∷ xs) zero le = absurd (omega arith)
    drop_all (x ∷ xs) (suc i) le = drop_all xs i (omega arith)

-- no more numbers than items
pub places_few : {X : Type 0} (p : X → Bool) (i : ℕ) (xs : List X) → length (places_from i p xs) ≤ length xs
places_few p i [] = omega arith
places_few p i (x ∷ xs) = counted (p x) (places_few p (i + 1) xs)
  where
    counted : (b : Bool) → length (places_from (i + 1) p xs) ≤ length xs → length (if b then i ∷ places_from (i + 1) p xs else places_from (i + 1) p xs) ≤ length (x ∷ xs)
    counted true le = omega (arith, le)
    counted false le = omega (arith, le)

-- ---- each number of a list
module _ (P : ℕ → Type 0) where
  all_none : All P []
  all_none k d lt = absurd (omega arith)

  all_head : (x : ℕ) (xs : List ℕ) → All P (x ∷ xs) → P x
  all_head x xs h = h 0 x (omega arith)

  all_tail : (x : ℕ) (xs : List ℕ) → All P (x ∷ xs) → All P xs
  all_tail x xs h k d lt = h (suc k) d (omega arith)

  -- what stands at each place passes
  pub places_pass : {X : Type 0} (p : X → Bool) (i : ℕ) (xs : List X) → ((k : ℕ) (x : X) → slice_get xs k ≡ Some x → IsTrue (p x) → P (i + k)) → All P (places_from i p xs)
  places_pass p i [] each = all_none
  places_pass p i (x ∷ xs) each =
      pass (p x) refl (places_pass p (i + 1) xs (λ k y e t. (let at : (i + 1) + k ≡ i + suc k = omega arith in subst P (sym at) (each (suc k) y e t))))
    where
      pass : (b : Bool) → p x ≡ b → All P (places_from (i + 1) p xs) → All P (if b then i ∷ places_from (i + 1) p xs else places_from (i + 1) p xs)
      pass true e rest = All-cons P i (places_from (i + 1) p xs) (let at : i + 0 ≡ i = omega arith in subst P at (each 0 x refl e)) rest
      pass false e rest = rest

  -- the same of a sublist
  pub sublist_all : {xs ys : List ℕ} → IsSublist xs ys → All P ys → All P xs
  sublist_all none h = all_none
  sublist_all (with_first {x = x} {xs = xs} {ys = ys} s) h = All-cons P x xs (all_head x ys h) (sublist_all s (all_tail x ys h))
  sublist_all (without_first {y = y} {xs = xs} {ys = ys} s) h = sublist_all s (all_tail y ys h)
