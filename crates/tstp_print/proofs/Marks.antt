-- Marks at what the last line needs.
use Rattle.std.proofs.Common.{◌≡◌, ◌≢◌, ℕ, zero, suc, ◌+◌, ◌-◌, ◌<◌, ◌≤◌, ◌==◌, Bool, true, false, List, length, get_or, refl, sym, ap, subst, ◌∙◌, ◌⊎◌, inl, inr, arith, get_or-set_same, get_or-set_other, length-set}
use Rattle.std.specs.Prelude.{Option, Some, None, slice_get, replicate, slice_set}
use Rattle.std.proofs.lemmas.List.{length-replicate, get_or-replicate}
use Rattle.std.proofs.lemmas.Option.{slice_get_within}
use Rattle.std.proofs.lemmas.Bool.Decides.{nat_tests}
use Rattle.std.proofs.lemmas.Bool.{cases_lt}
use Rattle.std.proofs.Math.ListN.{get_or-eq_default}
use Rattle.std.proofs.Math.Nat.{eq-zero-or-pos}
use Rattle.fo_infer.specs.declared.refutation.Line.{Line}
use Rattle.fo_infer.specs.declared.refutation.Origin.{Origin}
use Rattle.fo_infer.specs.declared.refutation.Origin.TheVariants.{Input, Alone, Pair}
use Rattle.tstp_print.specs.Used.{IsParent, IsUsed, last, parent, AreDrawn}
use Rattle.tstp_print.specs.inner.Marking.{is_marked, parents_marked, line_marked, mark_step, all_marked, last_marked, AreUsedMarks}

-- ---- one mark more

pub set_here : (ms : List Bool) (i : ℕ) → i < length ms → is_marked (slice_set ms i true) i ≡ true
set_here ms i h = get_or-set_same ms i true false h

pub set_else : (ms : List Bool) (i j : ℕ) → j ≢ i → is_marked (slice_set ms i true) j ≡ is_marked ms j
set_else ms i j h = get_or-set_other ms i j true false h

same : (j i : ℕ) → (j == i) ≡ true → j ≡ i
same j i e = grind (arith, nat_tests)

other : (j i : ℕ) → (j == i) ≡ false → j ≢ i
other j i e = λ is. grind (arith, nat_tests)

stays_by : (ms : List Bool) (i j : ℕ) (b : Bool) → (j == i) ≡ b → i < length ms → is_marked ms j ≡ true → is_marked (slice_set ms i true) j ≡ true
stays_by ms i j true e within h = ap (is_marked (slice_set ms i true)) (same j i e) ∙ set_here ms i within
stays_by ms i j false e within h = set_else ms i j (other j i e) ∙ h

pub set_stays : (ms : List Bool) (i j : ℕ) → i < length ms → is_marked ms j ≡ true → is_marked (slice_set ms i true) j ≡ true
set_stays ms i j = stays_by ms i j (j == i) refl

back_by : (ms : List Bool) (i j : ℕ) (b : Bool) → (j == i) ≡ b → is_marked (slice_set ms i true) j ≡ true → (j ≡ i) ⊎ (is_marked ms j ≡ true)
back_by ms i j true e h = inl (same j i e)
back_by ms i j false e h = inr (sym (set_else ms i j (other j i e)) ∙ h)

pub set_back : (ms : List Bool) (i j : ℕ) → is_marked (slice_set ms i true) j ≡ true → (j ≡ i) ⊎ (is_marked ms j ≡ true)
set_back ms i j = back_by ms i j (j == i) refl

pub set_length : (ms : List Bool) (i : ℕ) → length (slice_set ms i true) ≡ length ms
set_length ms i = length-set ms i true

-- ---- the parents of one line

pub parents_length : (o : Origin) (ms : List Bool) → length (parents_marked o ms) ≡ length ms
parents_length (Input number) ms = refl
parents_length (Alone of rule) ms = set_length ms of
parents_length (Pair left right rule) ms = set_length (slice_set ms left true) right ∙ set_length ms left

pub parents_stay : (o : Origin) (ms : List Bool) (j : ℕ) → ((m : ℕ) → IsParent o m → m < length ms) → is_marked ms j ≡ true → is_marked (parents_marked o ms) j ≡ true
parents_stay (Input number) ms j within h = h
parents_stay (Alone of rule) ms j within h = set_stays ms of j (within of refl) h
parents_stay (Pair left right rule) ms j within h =
    set_stays (slice_set ms left true) right j (let w = within right (inr refl) in let e = set_length ms left in omega arith) (set_stays ms left j (within left (inl refl)) h)

pub parents_have : (o : Origin) (ms : List Bool) (j : ℕ) → ((m : ℕ) → IsParent o m → m < length ms) → IsParent o j → is_marked (parents_marked o ms) j ≡ true
parents_have (Input number) ms j within h = absurd h
parents_have (Alone of rule) ms j within h = ap (is_marked (slice_set ms of true)) h ∙ set_here ms of (within of refl)
parents_have (Pair left right rule) ms j within (inl h) =
    set_stays (slice_set ms left true) right j (let w = within right (inr refl) in let e = set_length ms left in omega arith)
    (ap (is_marked (slice_set ms left true)) h ∙ set_here ms left (within left (inl refl)))
parents_have (Pair left right rule) ms j within (inr h) =
    ap (is_marked (slice_set (slice_set ms left true) right true)) h ∙
    set_here (slice_set ms left true) right (let w = within right (inr refl) in let e = set_length ms left in omega arith)

right_back : (ms : List Bool) (left j : ℕ) {P : Type 0} → ((j ≡ left) → P) → (j ≡ left) ⊎ (is_marked ms j ≡ true) → P ⊎ (is_marked ms j ≡ true)
right_back ms left j f (inl h) = inl (f h)
right_back ms left j f (inr h) = inr h

pub parents_back : (o : Origin) (ms : List Bool) (j : ℕ) → is_marked (parents_marked o ms) j ≡ true → IsParent o j ⊎ (is_marked ms j ≡ true)
parents_back (Input number) ms j h = inr h
parents_back (Alone of rule) ms j h = set_back ms of j h
parents_back (Pair left right rule) ms j h = by (set_back (slice_set ms left true) right j h)
  where
    by : (j ≡ right) ⊎ (is_marked (slice_set ms left true) j ≡ true) → ((j ≡ left) ⊎ (j ≡ right)) ⊎ (is_marked ms j ≡ true)
    by (inl e) = inl (inr e)
    by (inr e) = right_back ms left j (λ k. inl k) (set_back ms left j e)

-- ---- all lines

-- what a mark comes from that a line's step may have made
pub record FromLine (lines : List Line) (ms : List Bool) (n j : ℕ) : Type 0 where
  pub marked : is_marked ms n ≡ true
  pub line : Line
  pub line_is : slice_get lines n ≡ Some line
  pub is_parent : IsParent line.origin j

module _ (lines : List Line) (drawn : AreDrawn lines) where
  within : (n : ℕ) (l : Line) (ms : List Bool) → slice_get lines n ≡ Some l → length ms ≡ length lines → (m : ℕ) → IsParent l.origin m → m < length ms
  within n l ms is count m p = let a : m < n = drawn n l is m p in let b : n < length lines = slice_get_within lines n l is in omega arith

  line_length : (b : Bool) (o : Option Line) (ms : List Bool) → length (line_marked b o ms) ≡ length ms
  line_length true (Some l) ms = parents_length l.origin ms
  line_length true None ms = refl
  line_length false o ms = refl

  line_stays : (n j : ℕ) (ms : List Bool) (b : Bool) (o : Option Line) → slice_get lines n ≡ o → length ms ≡ length lines → is_marked ms j ≡ true → is_marked (line_marked b o ms) j ≡ true
  line_stays n j ms true (Some l) is count h = parents_stay l.origin ms j (within n l ms is count) h
  line_stays n j ms true None is count h = h
  line_stays n j ms false o is count h = h

  line_back : (n j : ℕ) (ms : List Bool) (b : Bool) (o : Option Line) → is_marked ms n ≡ b → slice_get lines n ≡ o → is_marked (line_marked b o ms) j ≡ true → FromLine lines ms n j ⊎ (is_marked ms j ≡ true)
  line_back n j ms true (Some l) e is h = by (parents_back l.origin ms j h)
    where
      by : IsParent l.origin j ⊎ (is_marked ms j ≡ true) → FromLine lines ms n j ⊎ (is_marked ms j ≡ true)
      by (inl p) = inl (record { marked = e; line = l; line_is = is; is_parent = p })
      by (inr k) = inr k
  line_back n j ms true None e is h = inr h
  line_back n j ms false o e is h = inr h

  pub step_length : (n : ℕ) (ms : List Bool) → length (mark_step lines n ms) ≡ length ms
  step_length n ms = line_length (is_marked ms n) (slice_get lines n) ms

  step_stays : (n j : ℕ) (ms : List Bool) → length ms ≡ length lines → is_marked ms j ≡ true → is_marked (mark_step lines n ms) j ≡ true
  step_stays n j ms = line_stays n j ms (is_marked ms n) (slice_get lines n) refl

  step_back : (n j : ℕ) (ms : List Bool) → is_marked (mark_step lines n ms) j ≡ true → FromLine lines ms n j ⊎ (is_marked ms j ≡ true)
  step_back n j ms = line_back n j ms (is_marked ms n) (slice_get lines n) refl refl

  pub all_length : (n : ℕ) (ms : List Bool) → length (all_marked lines n ms) ≡ length ms
  all_length zero ms = refl
  all_length (suc n) ms = all_length n (mark_step lines n ms) ∙ step_length n ms

  pub all_stay : (n j : ℕ) (ms : List Bool) → length ms ≡ length lines → is_marked ms j ≡ true → is_marked (all_marked lines n ms) j ≡ true
  all_stay zero j ms count h = h
  all_stay (suc n) j ms count h = all_stay n j (mark_step lines n ms) (step_length n ms ∙ count) (step_stays n j ms count h)

  -- the lines below `n` mark nothing from `n` on
  late : (n j : ℕ) (ms : List Bool) → suc n ≤ j → FromLine lines ms n j ⊎ (is_marked ms j ≡ true) → is_marked ms j ≡ true
  late n j ms past (inl f) = absurd (let a : j < n = drawn n f.line f.line_is j f.is_parent in omega arith)
  late n j ms past (inr h) = h

  all_back : (n j : ℕ) (ms : List Bool) → n ≤ j → is_marked (all_marked lines n ms) j ≡ true → is_marked ms j ≡ true
  all_back zero j ms past h = h
  all_back (suc n) j ms past h = late n j ms past (step_back n j ms (all_back n j (mark_step lines n ms) (omega arith) h))

  own : (n : ℕ) (ms : List Bool) → FromLine lines ms n n ⊎ (is_marked ms n ≡ true) → is_marked ms n ≡ true
  own n ms (inl f) = f.marked
  own n ms (inr h) = h

  at_own : (n p : ℕ) (l : Line) (ms : List Bool) (b : Bool) (o : Option Line) → is_marked ms n ≡ b → b ≡ true → slice_get lines n ≡ o → o ≡ Some l → length ms ≡ length lines → IsParent l.origin p →
      is_marked (line_marked b o ms) p ≡ true
  at_own n p l ms true (Some k) e on is it_is count q =
      let it : k ≡ l = cc in
      parents_have k.origin ms p (within n k ms is count) (subst (λ z. IsParent z.origin p) (sym it) q)
  at_own n p l ms true None e on is it_is count q = absurd (cc)
  at_own n p l ms false o e on is it_is count q = absurd (cc)

  module _ (m p : ℕ) (l : Line) (is : slice_get lines m ≡ Some l) (q : IsParent l.origin p) where
    closed_by : (n : ℕ) (ms : List Bool) (b : Bool) → (m == n) ≡ b → length ms ≡ length lines → m < suc n → is_marked (all_marked lines n (mark_step lines n ms)) m ≡ true →
        (m < n → is_marked (all_marked lines n (mark_step lines n ms)) p ≡ true) → is_marked (all_marked lines n (mark_step lines n ms)) p ≡ true
    closed_by n ms true e count early h rest =
        let at : m ≡ n = same m n e in
        let here : is_marked ms n ≡ true = own n ms (step_back n n ms (all_back n n (mark_step lines n ms) (omega arith) (ap (is_marked (all_marked lines n (mark_step lines n ms))) (sym at) ∙ h))) in
        all_stay n p (mark_step lines n ms) (step_length n ms ∙ count)
        (at_own n p l ms (is_marked ms n) (slice_get lines n) refl here refl (ap (slice_get lines) (sym at) ∙ is) count q)
    closed_by n ms false e count early h rest = let ne : m ≢ n = other m n e in rest (omega arith)

    -- a marked line's parents are marked in the end
    pub closed : (n : ℕ) (ms : List Bool) → length ms ≡ length lines → m < n → is_marked (all_marked lines n ms) m ≡ true → is_marked (all_marked lines n ms) p ≡ true
    closed zero ms count early h = absurd (omega arith)
    closed (suc n) ms count early h = closed_by n ms (m == n) refl count early h (λ lt. closed n (mark_step lines n ms) (step_length n ms ∙ count) lt h)

  pub sound : (n : ℕ) (ms : List Bool) → ((j : ℕ) → is_marked ms j ≡ true → IsUsed lines j) → (j : ℕ) → is_marked (all_marked lines n ms) j ≡ true → IsUsed lines j
  sound zero ms used j h = used j h
  sound (suc n) ms used j h = sound n (mark_step lines n ms) (λ k g. by k (step_back n k ms g)) j h
    where
      by : (k : ℕ) → FromLine lines ms n k ⊎ (is_marked ms k ≡ true) → IsUsed lines k
      by k (inl f) = parent (used n f.marked) f.line_is f.is_parent
      by k (inr g) = used k g

  pub first_length : (n : ℕ) → length (last_marked n) ≡ n
  first_length n = set_length (replicate n false) (n - 1) ∙ length-replicate n false

  pub complete : {n : ℕ} → IsUsed lines n → is_marked (all_marked lines (length lines) (last_marked (length lines))) n ≡ true
  complete {n} (last e) =
      let at : length lines - 1 ≡ n = omega arith in
      all_stay (length lines) n (last_marked (length lines)) (first_length (length lines))
      (ap (λ k. is_marked (slice_set (replicate (length lines) false) k true) n) at ∙
      set_here (replicate (length lines) false) n (let a = length-replicate (length lines) false in omega arith))
  complete (parent {n = n} {m = m} {l = l} u is q) =
      closed n m l is q (length lines) (last_marked (length lines)) (first_length (length lines)) (slice_get_within lines n l is) (complete u)

  -- no mark is made where there is none
  past_end : (ms : List Bool) (j : ℕ) → length ms ≤ j → is_marked ms j ≡ false
  past_end ms j h = get_or-eq_default ms false h

  unmarked : (n j : ℕ) → (j < n) ⊎ (n ≤ j) → is_marked (replicate n false) j ≡ false
  unmarked n j (inl h) = get_or-replicate n j false false h
  unmarked n j (inr h) = past_end (replicate n false) j (let a = length-replicate n false in omega arith)

  starts_by : (j : ℕ) → (length lines ≡ zero) ⊎ (zero < length lines) → is_marked (last_marked (length lines)) j ≡ true → IsUsed lines j
  starts_by j (inl none) h = absurd (let e : is_marked (last_marked (length lines)) j ≡ false = past_end (last_marked (length lines)) j (let a = first_length (length lines) in omega arith) in cc)
  starts_by j (inr some) h = by (set_back (replicate (length lines) false) (length lines - 1) j h)
    where
      by : (j ≡ length lines - 1) ⊎ (is_marked (replicate (length lines) false) j ≡ true) → IsUsed lines j
      by (inl e) = last (omega arith)
      by (inr m) = absurd (let e : is_marked (replicate (length lines) false) j ≡ false = unmarked (length lines) j (cases_lt j (length lines)) in cc)

  pub starts : (j : ℕ) → is_marked (last_marked (length lines)) j ≡ true → IsUsed lines j
  starts j = starts_by j (eq-zero-or-pos (length lines))

  -- the marks of all lines are those of the used ones
  pub are_used : (marks : List Bool) → marks ≡ all_marked lines (length lines) (last_marked (length lines)) → AreUsedMarks lines marks
  are_used marks e = subst (AreUsedMarks lines) (sym e) (record {
    count = all_length (length lines) (last_marked (length lines)) ∙ first_length (length lines);
    passes = λ n within. (λ h. sound (length lines) (last_marked (length lines)) starts n h, λ u. complete u);
  })
