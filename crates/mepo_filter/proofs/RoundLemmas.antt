-- A round over facts by their places is the round over the facts.
use Rattle.std.proofs.Common.{◌≡◌, ℕ, ◌+◌, ◌≤◌, ◌^◌, Bool, true, false, cond, List, [], ◌∷◌, ◌++◌, length, refl, sym, ap, ◌∙◌, arith}
use borrow.Author.Tests.{eqb-true}
use Rattle.std.specs.Prelude.{All, map, filter, not, ◌==◌}
use Rattle.std.proofs.lemmas.List.{map-id, length-map}
use Rattle.std.proofs.lemmas.List.Elements.{All-same, All-map, All-filter}
use Rattle.mepo_filter.specs.declared.chosen.Chosen.{Chosen}
use Rattle.mepo_filter.specs.declared.placing.Scored.{Scored}
use Rattle.mepo_filter.specs.declared.round.State.{State}
use Rattle.mepo_filter.specs.declared.slice.Slice.{Slice}
use Rattle.mepo_filter.specs.Scores.{Candidate, reaches}
use Rattle.mepo_filter.specs.Ranking.{ranked}
use Rattle.mepo_filter.specs.Rounds.{Round, taken, is_taken, chosen_in, joined, risen, unless_none}
use Rattle.mepo_filter.specs.inner.Tables.{is_in}
use Rattle.mepo_filter.specs.inner.Places.{IsWithin, candidate_at, candidates_at, scored_at}
use Rattle.mepo_filter.specs.inner.Steps.{IsReady, Goes, Stops, round_at, chosen_of, candidate_of}

-- two ways to filter and to map that agree on each element
module _ {A B C D : Type 0} (g : A → B) (h : A → C) (p : B → Bool) (q : C → Bool) (k : B → D) (l : C → D) (alike : (a : A) → p (g a) ≡ q (h a)) (same : (a : A) → k (g a) ≡ l (h a)) where
  picked : (xs : List A) → map k (filter p (map g xs)) ≡ map l (filter q (map h xs))
  picked [] = refl
  picked (x ∷ xs) =
      ap (λ b. map k (cond b (g x ∷ filter p (map g xs)) (filter p (map g xs)))) (alike x) ∙ go (q (h x)) (picked xs)
    where
      go : (b : Bool) → map k (filter p (map g xs)) ≡ map l (filter q (map h xs)) →
          map k (cond b (g x ∷ filter p (map g xs)) (filter p (map g xs))) ≡ map l (cond b (h x ∷ filter q (map h xs)) (filter q (map h xs)))
      go true rest = ap (λ y. y ∷ map k (filter p (map g xs))) (same x) ∙ ap (λ ys. l (h x) ∷ ys) rest
      go false rest = rest

map-map : {A B C : Type 0} (f : B → C) (g : A → B) (xs : List A) → map f (map g xs) ≡ map (λ x. f (g x)) xs
map-map f g [] = refl
map-map f g (x ∷ xs) = ap (λ ys. f (g x) ∷ ys) (map-map f g xs)

some_taken : (ts : List Candidate) → (length ts == 0) ≡ false → (fs : List Chosen) → unless_none ts fs ≡ fs
some_taken [] h fs = absurd (cc)
some_taken (t ∷ ts) h fs = refl

none_of : {X : Type 0} (xs : List X) → (length xs == 0) ≡ true → xs ≡ []
none_of [] h = refl
none_of (x ∷ xs) h = absurd (omega (arith, eqb-true (length (x ∷ xs)) 0 h))

module _ (weigh : ℕ → ℕ) (flat : List ℕ) (number : ℕ) (old : State) (scored ts : List Scored)
    (scored_is : scored ≡ map (scored_at weigh (is_in old.relevant) flat) old.left.items)
    (taken_is : ts ≡ filter (λ s. reaches old.mark s.score) scored) where
  abbrev begun : (ℕ → Bool) → ℕ → List Candidate → Round
  begun r m l = record { number = number + 1; relevant = r; mark = m; left = l }

  from_places : ts ≡ filter (λ s. reaches old.mark s.score) (map (scored_at weigh (is_in old.relevant) flat) old.left.items)
  from_places = taken_is ∙ ap (filter (λ s. reaches old.mark s.score)) scored_is

  pub candidates_taken : map (candidate_of flat) ts ≡ taken weigh (round_at flat number old)
  candidates_taken =
      ap (map (candidate_of flat)) from_places
      ∙ picked (scored_at weigh (is_in old.relevant) flat) (candidate_at flat) (λ s. reaches old.mark s.score) (is_taken weigh (round_at flat number old))
      (candidate_of flat) (λ f. f) (λ a. refl) (λ a. refl) old.left.items
      ∙ map-id (taken weigh (round_at flat number old))

  chosen_taken : map (chosen_of number) ts ≡ map (chosen_in weigh (round_at flat number old)) (taken weigh (round_at flat number old))
  chosen_taken =
      ap (map (chosen_of number)) from_places
      ∙ picked (scored_at weigh (is_in old.relevant) flat) (candidate_at flat) (λ s. reaches old.mark s.score) (is_taken weigh (round_at flat number old))
      (chosen_of number) (chosen_in weigh (round_at flat number old)) (λ a. refl) (λ a. refl) old.left.items

  left_over : candidates_at flat (map (λ s. s.place) (filter (λ s. not (reaches old.mark s.score)) scored))
      ≡ filter (λ f. not (is_taken weigh (round_at flat number old) f)) (candidates_at flat old.left.items)
  left_over =
      map-map (candidate_at flat) (λ (s : Scored). s.place) (filter (λ s. not (reaches old.mark s.score)) scored)
      ∙ ap (λ l. map (candidate_of flat) (filter (λ s. not (reaches old.mark s.score)) l)) scored_is
      ∙ picked (scored_at weigh (is_in old.relevant) flat) (candidate_at flat) (λ s. not (reaches old.mark s.score))
      (λ f. not (is_taken weigh (round_at flat number old) f)) (candidate_of flat) (λ f. f) (λ a. refl) (λ a. refl) old.left.items
      ∙ map-id (filter (λ f. not (is_taken weigh (round_at flat number old) f)) (candidates_at flat old.left.items))

  scored_within : IsReady flat old → All (λ s. IsWithin (length flat) s.place) scored
  scored_within ready =
      All-same (λ s. IsWithin (length flat) s.place) _ _ scored_is
      (All-map (λ s. IsWithin (length flat) s.place) (scored_at weigh (is_in old.relevant) flat) old.left.items ready.within)

  pub taken_within : IsReady flat old → All (λ s. IsWithin (length flat) s.place) ts
  taken_within ready =
      All-same (λ s. IsWithin (length flat) s.place) _ _ taken_is
      (All-filter (λ s. reaches old.mark s.score) (λ s. IsWithin (length flat) s.place) scored (scored_within ready))

  left_within : IsReady flat old → All (IsWithin (length flat)) (map (λ s. s.place) (filter (λ s. not (reaches old.mark s.score)) scored))
  left_within ready =
      All-map (IsWithin (length flat)) (λ s. s.place) (filter (λ s. not (reaches old.mark s.score)) scored)
      (All-filter (λ s. not (reaches old.mark s.score)) (λ s. IsWithin (length flat) s.place) scored (scored_within ready))

  pub stopped : (length ts == 0) ≡ true → Stops weigh flat number old old
  stopped empty = record {
    none = sym candidates_taken ∙ ap (map (candidate_of flat)) (none_of ts empty);
    chosen = refl;
  }

  pub went : (s : Slice) (new : State) → (length ts == 0) ≡ false →
      new.chosen.items ≡ old.chosen.items ++ ranked (map (chosen_of number) ts) →
      is_in new.relevant ≡ joined (is_in old.relevant) (map (candidate_of flat) ts) →
      new.left.items ≡ map (λ s. s.place) (filter (λ s. not (reaches old.mark s.score)) scored) →
      new.mark ≡ risen s old.mark → new.mark ≤ 2 ^ 20 → IsReady flat old → Goes weigh s flat number old new
  went s new some chosen relevant left mark small ready = record {
    some = some_taken (taken weigh (round_at flat number old))
        (ap (λ l. length l == 0) (sym candidates_taken) ∙ ap (λ n. n == 0) (length-map ts (candidate_of flat)) ∙ some);
    chosen = chosen ∙ ap (λ l. old.chosen.items ++ ranked l) chosen_taken;
    next =
        ap (λ (r : ℕ → Bool). begun r new.mark (candidates_at flat new.left.items)) (relevant ∙ ap (joined (is_in old.relevant)) candidates_taken)
        ∙ ap (λ m. begun (joined (is_in old.relevant) (taken weigh (round_at flat number old))) m (candidates_at flat new.left.items)) mark
        ∙ ap (λ l. begun (joined (is_in old.relevant) (taken weigh (round_at flat number old))) (risen s old.mark) l) (ap (candidates_at flat) left ∙ left_over);
    ready = record {
      within = All-same (IsWithin (length flat)) _ _ left (left_within ready);
      mark = small;
    };
  }
