-- Each text has a first line of a proof, the earliest, or none.
use Rattle.std.proofs.Common.{◌≡◌, ◌⊎◌, inl, inr, ℕ, ◌+◌, ◌≤◌, List, [], ◌∷◌, ◌++◌, length, take, refl, sym, ap, subst, ◌∙◌, append_assoc, arith, length-append}
use Rattle.std.proofs.lemmas.Bool.{cases_order, cases_lt}
use Rattle.std.proofs.lemmas.List.{take_at, append_cancel_left, length_push, same_from_push}
use Rattle.proof_syntax.specs.Reading.{first_line, AreLines, StartsBehind, NeverStarts}

-- ---- a front of some bytes

abbrev Fronts : List ℕ → List ℕ → Type 0
Fronts xs bs = ((rest : List ℕ) × (bs ≡ xs ++ rest)) ⊎ ((rest : List ℕ) → bs ≡ xs ++ rest → ⊥)

same_byte : (x b : ℕ) (xs bs : List ℕ) → x ≡ b → Fronts xs bs → Fronts (x ∷ xs) (b ∷ bs)
same_byte x b xs bs same (inl f) = inl (f.0, (λ i. sym same i ∷ f.1 i))
same_byte x b xs bs same (inr never) = inr (λ rest e. let tail : bs ≡ xs ++ rest = cc in never rest tail)

other_byte : (x b : ℕ) (xs bs : List ℕ) → (x ≡ b → ⊥) → Fronts (x ∷ xs) (b ∷ bs)
other_byte x b xs bs other = inr (λ rest e. let head : x ≡ b = cc in other head)

is_front : (xs bs : List ℕ) → Fronts xs bs
is_front [] bs = inl (bs, refl)
is_front (x ∷ xs) [] = inr (λ rest e. cc)
is_front (x ∷ xs) (b ∷ bs) = elim (cases_order x b) [
  | inl same ↦ same_byte x b xs bs same (is_front xs bs)
  | inr (inl less) ↦ other_byte x b xs bs (λ e. omega arith)
  | inr (inr more) ↦ other_byte x b xs bs (λ e. omega arith)
]

-- ---- ends of lines

abbrev AtLine : List ℕ → Type 0
AtLine bs = AreLines bs ⊎ (AreLines bs → ⊥)

no_line : (done : List ℕ) (b : ℕ) → (b ≡ 10 → ⊥) → AreLines (done ++ b ∷ []) → ⊥
no_line done b other (inl e) = let count = ap (λ xs. length xs) e in omega (arith, length_push done b)
no_line done b other (inr f) = other (same_from_push done f.0 b 10 f.1).1

at_line : (done : List ℕ) (b : ℕ) → AtLine (done ++ b ∷ [])
at_line done b = elim (cases_order b 10) [
  | inl same ↦ inl (inr (done, ap (λ c. done ++ c ∷ []) same))
  | inr (inl less) ↦ inr (no_line done b (λ e. omega arith))
  | inr (inr more) ↦ inr (no_line done b (λ e. omega arith))
]

-- ---- the search

module _ (text : List ℕ) where
  abbrev pub Found : Type 0
  Found = ((before : List ℕ) × (body : List ℕ) × StartsBehind text before body) ⊎ NeverStarts text

  abbrev NoneIn : List ℕ → Type 0
  NoneIn done = (front more : List ℕ) → text ≡ front ++ first_line ++ more → AreLines front → length done ≤ length front

  -- two fronts of one length
  same_place : (done tail front more : List ℕ) → text ≡ done ++ tail → text ≡ front ++ first_line ++ more → length done ≡ length front → (front ≡ done) × (tail ≡ first_line ++ more)
  same_place done tail front more is e count =
      let other : text ≡ front ++ (first_line ++ more) = e ∙ append_assoc front first_line more in
      let same : front ≡ done = sym (take_at front (first_line ++ more) (length done) (sym count)) ∙ ap (λ xs. take (length done) xs) (sym other ∙ is) ∙ take_at done tail (length done) refl in
      (same, append_cancel_left done tail (first_line ++ more) (sym is ∙ other ∙ ap (λ x. x ++ (first_line ++ more)) same))

  later : (done tail : List ℕ) (b : ℕ) → text ≡ done ++ tail → NoneIn done → ((more : List ℕ) → AreLines done → tail ≡ first_line ++ more → ⊥) → NoneIn (done ++ b ∷ [])
  later done tail b is low none = λ front more e lines. elim (cases_lt (length done) (length front)) [
    | inl less ↦ omega (arith, length_push done b)
    | inr most ↦
        let least = low front more e lines in
        let same = same_place done tail front more is e (omega arith) in
        absurd (none more (subst (λ x. AreLines x) same.0 lines) same.1)
  ]

  ended : (done : List ℕ) → text ≡ done ++ [] → NoneIn done → NeverStarts text
  ended done is low = λ front more e lines.
      let least = low front more e lines in
      let all = ap (λ xs. length xs) (sym is ∙ e ∙ append_assoc front first_line more) in
      let count : length (first_line ++ more) ≡ 15 + length more = omega (arith, length-append first_line more) in
      omega (arith, length-append done [], length-append front (first_line ++ more))

  search_from : (rest done : List ℕ) → text ≡ done ++ rest → AtLine done → NoneIn done → Found
  search_from [] done is at low = inr (ended done is low)
  search_from (b ∷ rest) done is (inr not) low =
      search_from rest (done ++ b ∷ []) (is ∙ sym (append_assoc done (b ∷ []) rest)) (at_line done b) (later done (b ∷ rest) b is low (λ more lines e. not lines))
  search_from (b ∷ rest) done is (inl lines) low = elim (is_front first_line (b ∷ rest)) [
    | inl f ↦ inl (done, f.0, record { is = is ∙ ap (λ xs. done ++ xs) f.1 ∙ sym (append_assoc done first_line f.0); lines = lines; earliest = low })
    | inr never ↦ search_from rest (done ++ b ∷ []) (is ∙ sym (append_assoc done (b ∷ []) rest)) (at_line done b) (later done (b ∷ rest) b is low (λ more at e. never more e))
  ]

  pub start : Found
  start = search_from text [] refl (inl (inl refl)) (λ front more e lines. omega arith)
