-- Ids that are collected from places, step by step.
use Rattle.std.proofs.Common.{◌≡◌, ℕ, ◌+◌, ◌<◌, ◌≤◌, Bool, true, false, List, [], ◌∷◌, ◌++◌, length, get_or, take, drop, zero, suc, refl, sym, ap, ◌∙◌, subst, arith, inl, inr, length-append}
use Rattle.std.specs.Prelude.{Some, None, Contains, IsTrue, ◌⊎◌, ◌==◌, slice_get}
use Rattle.std.specs.List.{starts_with}
use Rattle.std.proofs.lemmas.Bool.{eqb-true, eqb-false}
use Rattle.std.proofs.lemmas.Bool.Decides.{Decides-eqb}
use Rattle.std.proofs.lemmas.Slice.Eq.{starts_is}
use Rattle.std.proofs.lemmas.Option.{slice_get_read}
use Rattle.std.proofs.lemmas.List.{take_more, take_all, append-nil}
use Rattle.std.proofs.lemmas.List.Elements.{Contains-append_left, Contains-append_right, Contains-append_cases}
use Rattle.std.proofs.Math.Seq.{take-append_seam}
use Rattle.fo_index.specs.declared.filed.Filed.{Filed}
use Rattle.fo_index.specs.declared.shelves.Shelves.{Shelves}
use Rattle.fo_index.specs.Fronts.{Begins, Meets}
use Rattle.std.specs.List.Sorted.{IsStrictlyIncreasing}
use Rattle.fo_index.specs.Candidates.{IsMet, AreMet}
use Rattle.fo_index.specs.inner.Collected.{Collects}
use Rattle.fo_index.specs.inner.Numbered.{kept}
use Rattle.fo_index.specs.inner.Shelved.{AreShelved, IsShelved}

pub begins-says : (p s : List ℕ) (r : Bool) → r ≡ starts_with ◌==◌ s p → (IsTrue r → Begins p s) × (Begins p s → IsTrue r)
begins-says p s r is =
    let h = starts_is Decides-eqb s p r is in
    (λ t. (drop (length p) s, h.0 t), λ b. h.1 b.0 b.1)

contained : (filed : List Filed) (k : ℕ) (entry : Filed) → slice_get filed k ≡ Some entry → Contains filed entry
contained [] k entry is = cc
contained (f ∷ filed) zero entry is = (let e : f ≡ entry = cc in (0, omega arith, e))
contained (f ∷ filed) (suc k) entry is = (let c = contained filed k entry is in (suc c.0, omega (arith, c.1), c.2))

module _ (filed : List Filed) (front : List ℕ) where
  pub collects-none : (place : ℕ) (ids : List ℕ) → slice_get filed place ≡ None → Collects filed front (λ k. k ≡ place) ids ids
  collects-none place ids none = record {
    stay = λ id c. c;
    all = λ k entry is at meets. (let e : slice_get filed k ≡ slice_get filed place = ap (slice_get filed) is in cc);
    only = λ id c. inl c;
  }

  pub collects-other : (place : ℕ) (entry : Filed) (ids : List ℕ) → slice_get filed place ≡ Some entry → (Meets entry.front front → ⊥) → Collects filed front (λ k. k ≡ place) ids ids
  collects-other place entry ids found apart = record {
    stay = λ id c. c;
    all = λ k other is at meets.
        let e : slice_get filed k ≡ slice_get filed place = ap (slice_get filed) is in
        let same : other ≡ entry = cc in
        let P : Filed → Type 0 = λ f. Meets f.front front in
        absurd (apart (subst P same meets));
    only = λ id c. inl c;
  }

  only-itself : (id other : ℕ) → Contains (other ∷ []) id → other ≡ id
  only-itself id other c = only-at c.0 c.1 c.2
    where
      only-at : (k : ℕ) → k < length (other ∷ []) → get_or (other ∷ []) k id ≡ id → other ≡ id
      only-at zero lt is = is
      only-at (suc k) lt is = absurd (omega (arith, lt))

  pub collects-one : (place : ℕ) (entry : Filed) (before now : List ℕ) → slice_get filed place ≡ Some entry → Meets entry.front front → now ≡ before ++ entry.id ∷ [] → Collects filed front (λ k. k ≡ place) before now
  collects-one place entry before now found meets now_is = record {
    stay = λ id c. (let P : List ℕ → Type 0 = λ l. Contains l id in subst P (sym now_is) (Contains-append_left before (entry.id ∷ []) id c));
    all = λ k other is at m.
        let e : slice_get filed k ≡ slice_get filed place = ap (slice_get filed) is in
        let same : entry ≡ other = cc in
        let P : Filed → Type 0 = λ f. Contains now f.id in
        let Q : List ℕ → Type 0 = λ l. Contains l entry.id in
        subst P same (subst Q (sym now_is) (Contains-append_right before (entry.id ∷ []) entry.id (0, omega arith, refl)));
    only = λ id c.
        let P : List ℕ → Type 0 = λ l. Contains l id in
        elim (Contains-append_cases before (entry.id ∷ []) id (subst P now_is c)) [
          | inl b ↦ inl b
          | inr n ↦ inr (record { entry = entry; stands = contained filed place entry found; id_is = only-itself id entry.id n; meets = meets })
        ];
  }

  pub collects-start : (P : ℕ → Type 0) (ids : List ℕ) → ((k : ℕ) → P k → ⊥) → Collects filed front P ids ids
  collects-start P ids none = record { stay = λ id c. c; all = λ k entry p at meets. absurd (none k p); only = λ id c. inl c }

  -- places of two kinds in turn
  pub collects-both : (P Q R : ℕ → Type 0) (before mid now : List ℕ) → Collects filed front P before mid → Collects filed front Q mid now → ((k : ℕ) → R k → P k ⊎ Q k) → Collects filed front R before now
  collects-both P Q R before mid now first second cases = record {
    stay = λ id c. second.stay id (first.stay id c);
    all = λ k entry r at meets. elim (cases k r) [ inl p ↦ second.stay entry.id (first.all k entry p at meets) | inr q ↦ second.all k entry q at meets ];
    only = λ id c. elim (second.only id c) [ inl m ↦ first.only id m | inr met ↦ inr met ];
  }

  no-place : (k : ℕ) → Contains (let none : List ℕ = [] in none) k → ⊥
  no-place k c = omega (arith, c.1)

  pub collects-begin : (places ids : List ℕ) → Collects filed front (Contains (take 0 places)) ids ids
  collects-begin places ids = collects-start (Contains []) ids no-place

  pub collects-more : (places : List ℕ) (i place : ℕ) (before mid now : List ℕ) → i < length places → place ≡ get_or places i 0 → Collects filed front (Contains (take i places)) before mid
      → Collects filed front (λ k. k ≡ place) mid now → Collects filed front (Contains (take (i + 1) places)) before now
  collects-more places i place before mid now within is first step =
      collects-both (Contains (take i places)) (λ k. k ≡ place) (Contains (take (i + 1) places)) before mid now first step
      (λ k c.
      let P : List ℕ → Type 0 = λ l. Contains l k in
      elim (Contains-append_cases (take i places) (get_or places i 0 ∷ []) k (subst P (take_more places i 0 within) c)) [
        | inl b ↦ inl b
        | inr n ↦ inr (sym (is ∙ only-itself k (get_or places i 0) n))
      ])

  pub collects-end : (places : List ℕ) (i : ℕ) (before now : List ℕ) → length places ≤ i → Collects filed front (Contains (take i places)) before now → Collects filed front (Contains places) before now
  collects-end places i before now past h = (let P : List ℕ → Type 0 = λ l. Collects filed front (Contains l) before now in subst P (take_all i places past) h)

  -- places under shorter beginnings of the front
  abbrev pub Shorter : Shelves → ℕ → ℕ → Type 0
  Shorter whole many k = (j : ℕ) × (j < many) × Contains (kept whole (take j front)) k

  pub collects-shorter-start : (whole : Shelves) (ids : List ℕ) → Collects filed front (Shorter whole 0) ids ids
  collects-shorter-start whole ids = collects-start (Shorter whole 0) ids (λ k s. omega (arith, s.1))

  shorter-cases : (b : Bool) (whole : Shelves) (many k j : ℕ) → (j == many) ≡ b → j < many + 1 → Contains (kept whole (take j front)) k → Shorter whole many k ⊎ Contains (kept whole (take many front)) k
  shorter-cases true whole many k j is lt c = (let P : ℕ → Type 0 = λ n. Contains (kept whole (take n front)) k in inr (subst P (eqb-true j many is) c))
  shorter-cases false whole many k j is lt c = (let no = eqb-false j many is in inl (j, omega (arith, lt, no), c))

  pub collects-shorter-more : (whole : Shelves) (many : ℕ) (places before mid now : List ℕ) → places ≡ kept whole (take many front) → Collects filed front (Shorter whole many) before mid
      → Collects filed front (Contains places) mid now → Collects filed front (Shorter whole (many + 1)) before now
  collects-shorter-more whole many places before mid now is first step =
      let P : List ℕ → Type 0 = λ l. Collects filed front (Contains l) mid now in
      collects-both (Shorter whole many) (Contains (kept whole (take many front))) (Shorter whole (many + 1)) before mid now first (subst P is step)
      (λ k s. shorter-cases (s.0 == many) whole many k s.0 refl s.1 s.2)

  abbrev pub Found : Shelves → Shelves → ℕ → Type 0
  Found whole begun k = Shorter whole (length front) k ⊎ Contains (kept begun front) k

  pub collects-found : (whole begun : Shelves) (many : ℕ) (places before mid now : List ℕ) → length front ≤ many → many ≤ length front → places ≡ kept begun front
      → Collects filed front (Shorter whole many) before mid → Collects filed front (Contains places) mid now → Collects filed front (Found whole begun) before now
  collects-found whole begun many places before mid now low high is first step =
      let P : List ℕ → Type 0 = λ l. Collects filed front (Contains l) mid now in
      let Q : ℕ → Type 0 = λ n. Collects filed front (Shorter whole n) before mid in
      let e : many ≡ length front = omega arith in
      collects-both (Shorter whole (length front)) (Contains (kept begun front)) (Found whole begun) before mid now (subst Q e first) (subst P is step) (λ k f. f)

  -- a place whose front meets this one is found
  begun-cases : (b : Bool) (whole begun : Shelves) (k : ℕ) (entry : Filed) (rest : List ℕ) → (length entry.front == length front) ≡ b → IsShelved whole begun entry.front k → front ≡ entry.front ++ rest → Found whole begun k
  begun-cases true whole begun k entry [] is shelved front_is =
      inr (shelved.passes front [] (sym (append-nil entry.front) ∙ sym front_is ∙ sym (append-nil front)))
  begun-cases true whole begun k entry (f ∷ rest) is shelved front_is =
      let e = eqb-true (length entry.front) (length front) is in
      let n = ap length front_is ∙ length-append entry.front (f ∷ rest) in
      absurd (omega (arith, e, n))
  begun-cases false whole begun k entry rest is shelved front_is =
      let no = eqb-false (length entry.front) (length front) is in
      let n = ap length front_is ∙ length-append entry.front rest in
      let cut : entry.front ≡ take (length entry.front) front = sym (ap (take (length entry.front)) front_is ∙ take-append_seam entry.front rest) in
      let P : List ℕ → Type 0 = λ l. Contains (kept whole l) k in
      inl (length entry.front, omega (arith, no, n), subst P cut shelved.ends)

  pub met-found : (whole begun : Shelves) (k : ℕ) (entry : Filed) → IsShelved whole begun entry.front k → Meets entry.front front → Found whole begun k
  met-found whole begun k entry shelved (inl h) = begun-cases (length entry.front == length front) whole begun k entry h.0 refl shelved h.1
  met-found whole begun k entry shelved (inr h) = inr (shelved.passes front h.0 h.1)

  pub all-met : (whole begun : Shelves) (ids : List ℕ) → AreShelved whole begun filed → Collects filed front (Found whole begun) [] ids → (id : ℕ) → IsMet filed front id → Contains ids id
  all-met whole begun ids shelved c id met =
      let at = met.stands in
      let found = slice_get_read filed (length filed) at.0 met.entry refl at.1 (sym at.2) in
      let P : ℕ → Type 0 = λ n. Contains ids n in
      subst P met.id_is (c.all at.0 met.entry (met-found whole begun at.0 met.entry (shelved at.0 met.entry found) met.meets) found met.meets)

  pub only-met : (whole begun : Shelves) (ids : List ℕ) → Collects filed front (Found whole begun) [] ids → (id : ℕ) → Contains ids id → IsMet filed front id
  only-met whole begun ids c id h = elim (c.only id h) [ inl n ↦ absurd (no-place id n) | inr met ↦ met ]

  -- the same ids in order
  pub are-met : (ids ordered : List ℕ) → ((id : ℕ) → IsMet filed front id → Contains ids id) → ((id : ℕ) → Contains ids id → IsMet filed front id)
      → ((id : ℕ) → Contains ids id → Contains ordered id) → ((id : ℕ) → Contains ordered id → Contains ids id) → IsStrictlyIncreasing ordered → AreMet filed front ordered
  are-met ids ordered all only to from up = record { all = λ id met. to id (all id met); only = λ id c. only id (from id c); ascending = up }
