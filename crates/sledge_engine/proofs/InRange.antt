-- The numbers that the filter chooses are numbers of facts.
use Rattle.std.proofs.Common.{ℕ, zero, suc, ◌≡◌, ◌∙◌, ◌+◌, ◌<◌, ◌≤◌, Bool, true, false, List, [], ◌∷◌, ◌++◌, length, map, take, get_or, nat_lt, refl, ap, if◌then◌else◌, arith}
use Rattle.std.specs.Prelude.{◌||◌, not, filter}
use Rattle.std.specs.List.{list_any}
use Rattle.std.proofs.lemmas.Bool.Decides.{nat_tests}
use Rattle.std.proofs.lemmas.List.Folds.{list_any-append}
use Rattle.hol_terms.proofs.Both.{both_false}
use Rattle.theory_reader.specs.declared.theory.Theory.{Theory}
use Rattle.theory_reader.specs.Seen.{seen}
use Rattle.mepo_filter.specs.declared.chosen.Chosen.{Chosen}
use Rattle.mepo_filter.specs.declared.slice.Slice.{Slice}
use Rattle.mepo_filter.specs.Mepo.{candidate, candidates, first_round, mepo, ranking}
use Rattle.mepo_filter.specs.Ranking.{is_above, ranked}
use Rattle.mepo_filter.specs.Rounds.{Round, chosen_in, is_taken, next, rounds, taken, unless_none}
use Rattle.mepo_filter.specs.Scores.{Candidate, weight_among}
use Rattle.mepo_filter.proofs.Members.{any_in_order, any_map}
use Rattle.slot_work.specs.Visible.{places_from}

neither : (a b : Bool) → a ≡ false → b ≡ false → (a || b) ≡ false
neither a b left right = ap (λ x. x || b) left ∙ right

module _ {X : Type 0} (q : X → Bool) where
  none_filter : (p : X → Bool) (xs : List X) → list_any q xs ≡ false → list_any q (filter p xs) ≡ false
  none_filter p [] none = refl
  none_filter p (x ∷ xs) none =
      let both = both_false (q x) (list_any q xs) none in
      kept (p x) both.0 (none_filter p xs both.1)
    where
      kept : (b : Bool) → q x ≡ false → list_any q (filter p xs) ≡ false → list_any q (if b then x ∷ filter p xs else filter p xs) ≡ false
      kept true here rest = neither (q x) (list_any q (filter p xs)) here rest
      kept false here rest = rest

  none_take : (n : ℕ) (xs : List X) → list_any q xs ≡ false → list_any q (take n xs) ≡ false
  none_take zero xs none = refl
  none_take (suc n) [] none = refl
  none_take (suc n) (x ∷ xs) none =
      let both = both_false (q x) (list_any q xs) none in
      neither (q x) (list_any q (take n xs)) both.0 (none_take n xs both.1)

  pub none_at : (xs : List X) (k : ℕ) (d : X) → list_any q xs ≡ false → k < length xs → q (get_or xs k d) ≡ false
  none_at [] k d none lt = absurd (omega (arith, lt))
  none_at (x ∷ xs) zero d none lt = (both_false (q x) (list_any q xs) none).0
  none_at (x ∷ xs) (suc k) d none lt = none_at xs k d (both_false (q x) (list_any q xs) none).1 (omega (arith, lt))

module _ (q : ℕ → Bool) (weigh : ℕ → ℕ) (s : Slice) where
  unless : (ts : List Candidate) (fs : List Chosen) → list_any (λ c. q c.fact) fs ≡ false → list_any (λ c. q c.fact) (unless_none ts fs) ≡ false
  unless [] fs none = refl
  unless (t ∷ ts) fs none = none

  none_rounds : (n : ℕ) (r : Round) → list_any (λ f. q f.fact) r.left ≡ false → list_any (λ c. q c.fact) (rounds weigh s n r) ≡ false
  none_rounds zero r none = refl
  none_rounds (suc n) r none =
      let first = ranked (map (chosen_in weigh r) (taken weigh r)) in
      let later = rounds weigh s n (next weigh s r) in
      let here : list_any (λ c. q c.fact) first ≡ false =
      any_in_order (λ c. q c.fact) is_above (map (chosen_in weigh r) (taken weigh r)) ∙ any_map (λ c. q c.fact) (chosen_in weigh r) (taken weigh r)
      ∙ none_filter (λ f. q f.fact) (is_taken weigh r) r.left none in
      let rest : list_any (λ c. q c.fact) later ≡ false =
      none_rounds n (next weigh s r) (none_filter (λ f. q f.fact) (λ f. not (is_taken weigh r f)) r.left none) in
      unless (taken weigh r) (first ++ later) (list_any-append (λ c. q c.fact) first later ∙ neither _ _ here rest)

-- where no visible number passes a test, no chosen one does
pub none_chosen : (q : ℕ → Bool) (t : Theory) (visible : List ℕ) (goal : ℕ) (s : Slice) → list_any q visible ≡ false →
    list_any q (map (λ c. c.fact) (mepo t visible goal s)) ≡ false
unfolding mepo
none_chosen q t visible goal s none =
    any_map q (λ c. c.fact) (take s.facts (ranking t visible goal s))
    ∙ none_take (λ c. q c.fact) s.facts (ranking t visible goal s)
    (none_rounds q (weight_among (candidates t visible goal)) s (length visible) (first_round t visible goal s)
    (any_map (λ f. q f.fact) (candidate (seen t goal)) visible ∙ none))

-- the number isn't below
abbrev pub is_past : ℕ → ℕ → Bool
is_past m n = not (nat_lt n m)

not_past : (m n : ℕ) → n < m → is_past m n ≡ false
not_past m n lt = grind (arith, nat_tests)

below : (m n : ℕ) → is_past m n ≡ false → n < m
below m n e = grind (arith, nat_tests)

-- places of items are below their number
pub places_below : {X : Type 0} (p : X → Bool) (i m : ℕ) (xs : List X) → i + length xs ≤ m → list_any (is_past m) (places_from i p xs) ≡ false
places_below p i m [] le = refl
places_below p i m (x ∷ xs) le =
    let here : is_past m i ≡ false = not_past m i (omega (arith, le)) in
    let rest : list_any (is_past m) (places_from (i + 1) p xs) ≡ false = places_below p (i + 1) m xs (omega (arith, le)) in
    placed (p x) here rest
  where
    placed : (b : Bool) → is_past m i ≡ false → list_any (is_past m) (places_from (i + 1) p xs) ≡ false →
        list_any (is_past m) (if b then i ∷ places_from (i + 1) p xs else places_from (i + 1) p xs) ≡ false
    placed true here rest = neither (is_past m i) (list_any (is_past m) (places_from (i + 1) p xs)) here rest
    placed false here rest = rest

pub all_below : (m : ℕ) (ns : List ℕ) → list_any (is_past m) ns ≡ false → (k : ℕ) (d : ℕ) → k < length ns → get_or ns k d < m
all_below m ns none k d lt = below m (get_or ns k d) (none_at (is_past m) ns k d none lt)
