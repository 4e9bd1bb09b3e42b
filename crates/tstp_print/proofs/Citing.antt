-- Marks at the statements of used inputs.
use Rattle.std.proofs.Common.{◌≡◌, ◌≢◌, ℕ, suc, ◌+◌, ◌<◌, ◌≤◌, ◌==◌, Bool, true, false, List, length, get_or, refl, sym, ap, subst, ◌∙◌, ◌⊎◌, inl, inr, arith}
use Rattle.std.specs.Prelude.{Option, Some, None, slice_get, slice_set, IsTrue, ◌↔◌}
use Rattle.std.proofs.lemmas.Option.{slice_get_within, get_or_from_slice_get, slice_get-get_or}
use Rattle.std.proofs.Math.Nat.{eq-or-lt_of_le}
use Rattle.fo_infer.specs.declared.refutation.Line.{Line}
use Rattle.fo_infer.specs.declared.refutation.Origin.{Origin}
use Rattle.fo_infer.specs.declared.refutation.Origin.TheVariants.{Input, Alone, Pair}
use Rattle.tstp_print.specs.Used.{IsUsed, IsCited}
use Rattle.tstp_print.specs.inner.Marking.{is_marked, IsCitedBelow, AreCitedMarks, AreUsedMarks, HasSource, source_marked}
use Rattle.tstp_print.proofs.Marks.{set_here, set_stays, set_back, set_length}

pub source_length : (sources : List ℕ) (o : Origin) (ms : List Bool) → length (source_marked sources o ms) ≡ length ms
source_length sources (Input number) ms = set_length ms (get_or sources number 0)
source_length sources (Alone of rule) ms = refl
source_length sources (Pair left right rule) ms = refl

module _ (sources : List ℕ) (lines : List Line) (used : List Bool) where
  pub later : (n s : ℕ) → IsCitedBelow sources lines used n s → IsCitedBelow sources lines used (n + 1) s
  later n s h = record { at = h.at; line = h.line; number = h.number; early = let e = h.early in omega arith; marked = h.marked; line_is = h.line_is; origin = h.origin; source = h.source }

  sooner_by : (n s : ℕ) (h : IsCitedBelow sources lines used (n + 1) s) → (h.at ≡ n) ⊎ (h.at < n) → ((is_marked used n ≡ true) → (l : Line) → slice_get lines n ≡ Some l → (k : ℕ) → l.origin ≡ Input k → slice_get sources k ≡ Some s → ⊥) →
      IsCitedBelow sources lines used n s
  sooner_by n s h (inl e) none =
      absurd (none (ap (is_marked used) (sym e) ∙ h.marked) h.line (ap (slice_get lines) (sym e) ∙ h.line_is) h.number h.origin h.source)
  sooner_by n s h (inr e) none = record { at = h.at; line = h.line; number = h.number; early = e; marked = h.marked; line_is = h.line_is; origin = h.origin; source = h.source }

  at_or_before : (n s : ℕ) (h : IsCitedBelow sources lines used (n + 1) s) → (h.at ≡ n) ⊎ (h.at < n)
  at_or_before n s h = eq-or-lt_of_le (let e = h.early in omega arith)

  -- a line that isn't used cites nothing
  pub skipped : (n : ℕ) (ms : List Bool) → is_marked used n ≡ false → AreCitedMarks sources lines used n ms → AreCitedMarks sources lines used (n + 1) ms
  skipped n ms off old s within = (
    λ h. later n s ((old s within).0 h),
    λ h. (old s within).1 (sooner_by n s h (at_or_before n s h) (λ on l is k o src. cc)),
  )

  -- a line that is used cites the statement of its input
  cites : (n : ℕ) (l : Line) (ms : List Bool) → is_marked used n ≡ true → slice_get lines n ≡ Some l → (o : Origin) → l.origin ≡ o → HasSource sources (length ms) o → AreCitedMarks sources lines used n ms →
      (s : ℕ) → s < length ms → IsTrue (is_marked (source_marked sources o ms) s) ↔ IsCitedBelow sources lines used (n + 1) s
  cites n l ms on is (Input k) same source old s within = (to, from)
    where
      src : slice_get sources k ≡ Some (get_or sources k 0)
      src = slice_get-get_or sources k 0 (source.within k refl)

      to_by : (s ≡ get_or sources k 0) ⊎ (is_marked ms s ≡ true) → IsCitedBelow sources lines used (n + 1) s
      to_by (inl e) = record { at = n; line = l; number = k; early = omega arith; marked = on; line_is = is; origin = same; source = src ∙ ap Some (sym e) }
      to_by (inr h) = later n s ((old s within).0 h)

      to : IsTrue (is_marked (source_marked sources (Input k) ms) s) → IsCitedBelow sources lines used (n + 1) s
      to h = to_by (set_back ms (get_or sources k 0) s h)

      from_by : (h : IsCitedBelow sources lines used (n + 1) s) → (h.at ≡ n) ⊎ (h.at < n) → is_marked (slice_set ms (get_or sources k 0) true) s ≡ true
      from_by h (inl e) =
          let one : Some h.line ≡ Some l = sym h.line_is ∙ ap (slice_get lines) e ∙ is in
          let line : h.line ≡ l = cc in
          let both : Input h.number ≡ Input k = sym h.origin ∙ ap (λ (z : Line). z.origin) line ∙ same in
          let number : h.number ≡ k = cc in
          let it : Some s ≡ Some (get_or sources k 0) = sym h.source ∙ ap (slice_get sources) number ∙ src in
          let here : s ≡ get_or sources k 0 = cc in
          ap (is_marked (slice_set ms (get_or sources k 0) true)) here ∙ set_here ms (get_or sources k 0) (source.small k refl)
      from_by h (inr e) =
          set_stays ms (get_or sources k 0) s (source.small k refl)
          ((old s within).1 (record { at = h.at; line = h.line; number = h.number; early = e; marked = h.marked; line_is = h.line_is; origin = h.origin; source = h.source }))

      from : IsCitedBelow sources lines used (n + 1) s → IsTrue (is_marked (source_marked sources (Input k) ms) s)
      from h = from_by h (at_or_before n s h)
  cites n l ms on is (Alone of rule) same source old s within = (
    λ h. later n s ((old s within).0 h),
    λ h. (old s within).1 (sooner_by n s h (at_or_before n s h) (λ on' l' is' k o src.
        let one : Some l' ≡ Some l = sym is' ∙ is in let line : l' ≡ l = cc in let both : Input k ≡ Alone of rule = sym o ∙ ap (λ (z : Line). z.origin) line ∙ same in cc)),
  )
  cites n l ms on is (Pair left right rule) same source old s within = (
    λ h. later n s ((old s within).0 h),
    λ h. (old s within).1 (sooner_by n s h (at_or_before n s h) (λ on' l' is' k o src.
        let one : Some l' ≡ Some l = sym is' ∙ is in let line : l' ≡ l = cc in let both : Input k ≡ Pair left right rule = sym o ∙ ap (λ (z : Line). z.origin) line ∙ same in cc)),
  )

  pub cited : (n : ℕ) (l : Line) (ms : List Bool) → is_marked used n ≡ true → slice_get lines n ≡ Some l → HasSource sources (length ms) l.origin → AreCitedMarks sources lines used n ms →
      AreCitedMarks sources lines used (n + 1) (source_marked sources l.origin ms)
  cited n l ms on is source old s within =
      cites n l ms on is l.origin refl source old s (let e = source_length sources l.origin ms in omega arith)

  -- before any line, nothing is cited, and nothing is marked
  pub none_cited : (ms : List Bool) → ((s : ℕ) → is_marked ms s ≡ false) → AreCitedMarks sources lines used 0 ms
  none_cited ms off s within = (λ h. absurd (let e = off s in cc), λ h. absurd (let e = h.early in omega arith))

  -- the marks of all lines tell what is cited
  pub tells : (ms : List Bool) → AreUsedMarks lines used → AreCitedMarks sources lines used (length lines) ms → (s : ℕ) → s < length ms → IsTrue (is_marked ms s) ↔ IsCited sources lines s
  tells ms marks old s within = (
    λ h. let c = (old s within).0 h in record { n = c.at; line = c.line; number = c.number; used = (marks.passes c.at c.early).0 c.marked; line_is = c.line_is; origin = c.origin; source = c.source },
    λ h. (old s within).1 (record { at = h.n; line = h.line; number = h.number; early = slice_get_within lines h.n h.line h.line_is; marked = (marks.passes h.n (slice_get_within lines h.n h.line h.line_is)).1 h.used; line_is = h.line_is; origin = h.origin; source = h.source }),
  )
