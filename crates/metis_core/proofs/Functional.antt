-- A search has one state after each pick, and one end at most.
use Rattle.std.proofs.Common.{◌≡◌, ◌≢◌, ℕ, suc, ◌%◌, ◌<◌, ◌≤◌, ◌⊎◌, inl, inr, Bool, true, false, ◌==◌, List, [], ◌∷◌, map, subst, sym, ◌∙◌, refl, arith, MatchBool, Some}
use Rattle.std.proofs.lemmas.List.Elements.{All-contains}
use Rattle.fo_terms.specs.declared.clause.Clause.{Clause}
use Rattle.fo_infer.specs.declared.made.Made.{Made}
use Rattle.fo_infer.specs.Inferences.{Position, Alone, BetweenAt}
use Rattle.metis_core.specs.declared.given.Given.{Given}
use Rattle.metis_core.specs.declared.given.Positions.{Positions}
use Rattle.metis_core.specs.declared.premises.Premises.{Premises}
use Rattle.metis_core.specs.declared.premises.Premises.TheVariants.{One, Two}
use Rattle.clause_ring.specs.declared.entry.Entry.{Entry}
use Rattle.metis_core.specs.State.{State, nothing, activating}
use Rattle.metis_core.specs.Offer.{End, saturated, spent, Passed, on, over, Offer, empty, barred, kept, full, Through, done, next, ends}
use Rattle.metis_core.specs.Pick.{Precedes, IsPicked, IsOldest, IsLightest}
use Rattle.metis_core.specs.Search.{position_of, normal_forms, Infers, Inferred, pairs, Pick, Run, inputs, pick, Search, at_inputs, at_pick, nothing_waits, budget_used}
use Rattle.metis_core.specs.Ends.{OneState, OneEnd}

on_same : (s t : State) → on s ≡ on t → s ≡ t
on_same s t e = cc

over_same : (e f : End) (s t : State) → over e s ≡ over f t → (e ≡ f) × (s ≡ t)
over_same e f s t h = (cc, cc)

on_no_over : (s t : State) (e : End) → on s ≡ over e t → ⊥
on_no_over s t e h = cc

some_same : {A : Type 0} (x y : A) → Some x ≡ Some y → x ≡ y
some_same x y e = cc

-- ---- an offer

pub offer_one : (s : State) (c : Clause) (o p : Passed) → Offer s c o → Offer s c p → o ≡ p
offer_one s c o p (empty none) (empty none') = refl
offer_one s c o p (empty none) (barred some bar) = absurd (some none)
offer_one s c o p (empty none) (kept some keep room) = absurd (some none)
offer_one s c o p (empty none) (full some keep past) = absurd (some none)
offer_one s c o p (barred some bar) (empty none) = absurd (some none)
offer_one s c o p (barred some bar) (barred some' bar') = refl
offer_one s c o p (barred some bar) (kept some' keep room) = absurd (keep bar)
offer_one s c o p (barred some bar) (full some' keep past) = absurd (keep bar)
offer_one s c o p (kept some keep room) (empty none) = absurd (some none)
offer_one s c o p (kept some keep room) (barred some' bar) = absurd (keep bar)
offer_one s c o p (kept some keep room) (kept some' keep' room') = refl
offer_one s c o p (kept some keep room) (full some' keep' past) = absurd (omega arith)
offer_one s c o p (full some keep past) (empty none) = absurd (some none)
offer_one s c o p (full some keep past) (barred some' bar) = absurd (keep bar)
offer_one s c o p (full some keep past) (kept some' keep' room) = absurd (omega arith)
offer_one s c o p (full some keep past) (full some' keep' past') = refl

-- ---- a walk through a list

module _ {A : Type 0} (Step : State → A → Passed → Type 0) (one : (s : State) (x : A) (o p : Passed) → Step s x o → Step s x p → o ≡ p) where
  pub through_one : (xs : List A) (s : State) (o p : Passed) → Through Step s xs o → Through Step s xs p → o ≡ p
  through_one [] s o p done done = refl
  through_one (x ∷ xs) s o p (next {t = t} step rest) (next {t = u} step' rest') =
      through_one xs t o p rest (subst (λ v. Through Step v xs p) (sym (on_same t u (one s x (on t) (on u) step step'))) rest')
  through_one (x ∷ xs) s o p (next {t = t} step rest) (ends {t = u} {e = e} step') = absurd (on_no_over t u e (one s x (on t) (over e u) step step'))
  through_one (x ∷ xs) s o p (ends {t = u} {e = e} step) (next {t = t} step' rest') = absurd (on_no_over t u e (sym (one s x (over e u) (on t) step step')))
  through_one (x ∷ xs) s o p (ends {t = t} {e = e} step) (ends {t = u} {e = f} step') = one s x (over e t) (over f u) step step'

-- ---- which clause is picked

oldest_one : (waiting : List Entry) (e d : Entry) → IsOldest waiting e → IsOldest waiting d → e.number ≡ d.number
oldest_one waiting e d first also =
    let left = All-contains (λ x. e.number ≤ x.number) waiting d first.1 also.0 in
    let right = All-contains (λ x. d.number ≤ x.number) waiting e also.1 first.0 in
    omega arith

precedes_both : (e d : Entry) → Precedes e d → Precedes d e → e.number ≡ d.number
precedes_both e d (inl x) (inl y) = absurd (omega arith)
precedes_both e d (inl x) (inr y) = absurd (omega arith)
precedes_both e d (inr x) (inl y) = absurd (omega arith)
precedes_both e d (inr x) (inr y) = omega arith

picked_one : (oldest : Bool) (waiting : List Entry) (e d : Entry) → MatchBool oldest (IsOldest waiting e) (IsLightest waiting e) → MatchBool oldest (IsOldest waiting d) (IsLightest waiting d) → e.number ≡ d.number
picked_one true waiting e d first also = oldest_one waiting e d first also
picked_one false waiting e d first also = precedes_both e d (All-contains (Precedes e) waiting d first.1 also.0) (All-contains (Precedes d) waiting e also.1 first.0)

picked_waits : (oldest : Bool) (e : Entry) → MatchBool oldest (IsOldest [] e) (IsLightest [] e) → ⊥
picked_waits true e ((k, less, at), all) = omega arith
picked_waits false e ((k, less, at), all) = omega arith

-- ---- lists of inferences are one

module _ (alone_one : (p : Clause) (xs ys : List Made) → Alone p xs → Alone p ys → xs ≡ ys)
    (pair_one : (position : Position) (p q : Clause) (xs ys : List Made) → BetweenAt position p q xs → BetweenAt position p q ys → xs ≡ ys) where
  infers_one : (positions : Positions) (s : State) (p : Premises) (xs ys : List Made) → Infers positions s p xs → Infers positions s p ys → xs ≡ ys
  infers_one positions s (One n) xs ys (p, is, list) (q, it, list') =
      alone_one p xs ys list (subst (λ c. Alone c ys) (sym (some_same p q (sym is ∙ it))) list')
  infers_one positions s (Two n m) xs ys (p, q, is, it, list) (p', q', is', it', list') =
      pair_one (position_of positions) p q xs ys list
      (subst (λ c. BetweenAt (position_of positions) c q ys) (sym (some_same p p' (sym is ∙ is')))
      (subst (λ c. BetweenAt (position_of positions) p' c ys) (sym (some_same q q' (sym it ∙ it'))) list'))

  inferred_one : (positions : Positions) (s : State) (p : Premises) (o o' : Passed) → Inferred positions s p o → Inferred positions s p o' → o ≡ o'
  inferred_one positions s p o o' (made, list, offers) (made', list', offers') =
      through_one Offer offer_one (map (λ m. m.clause) made) s o o' offers
      (subst (λ l. Through Offer s (map (λ m. m.clause) l) o') (sym (infers_one positions s p made made' list list')) offers')

  pick_one : (given : Given) (n : ℕ) (s : State) (o p : Passed) → Pick given n s o → Pick given n s p → o ≡ p
  pick_one given n s o p (e, picked, steps) (d, picked', steps') =
      let same : e.number ≡ d.number = picked_one (n % given.age == 0) s.waiting e d picked picked' in
      through_one (Inferred given.positions) (inferred_one given.positions) (One e.number ∷ pairs e.number s.active) (activating s e.number) o p steps
      (subst (λ k. Through (Inferred given.positions) (activating s k) (One k ∷ pairs k s.active) p) (sym same) steps')

  pub run_one : (given : Given) → OneState given
  run_one given n s t (inputs offers) (inputs offers') = on_same s t (through_one Offer offer_one (normal_forms given.inputs) nothing (on s) (on t) offers offers')
  run_one given n s t (pick {n = k} {s = u} run step) (pick {s = v} run' step') =
      on_same s t (pick_one given (suc k) u (on s) (on t) step (subst (λ w. Pick given (suc k) w (on t)) (sym (run_one given k u v run run')) step'))

  -- ---- an end

  begins : (given : Given) (n : ℕ) (s : State) → Run given n s → (t : State) × Through Offer nothing (normal_forms given.inputs) (on t)
  begins given n s (inputs offers) = (s, offers)
  begins given n s (pick {n = k} {s = u} run step) = begins given k u run

  goes_on_before : (given : Given) (m : ℕ) (s : State) → Run given m s → (n : ℕ) → n < m → (t : State) × (u : State) × Run given n t × Pick given (suc n) t (on u)
  goes_on_before given m s (inputs offers) n less = absurd (omega arith)
  goes_on_before given m s (pick {n = k} {s = u} run step) n less = at (goes_on_before given k u run n) (cases k)
    where
      cases : (k : ℕ) → (n < k) ⊎ (k ≤ n)
      cases k = grind arith

      at : (n < k → (t : State) × (u : State) × Run given n t × Pick given (suc n) t (on u)) → (n < k) ⊎ (k ≤ n) → (t : State) × (u : State) × Run given n t × Pick given (suc n) t (on u)
      at earlier (inl before) = earlier before
      at earlier (inr past) = let same : k ≡ n = omega arith in (u, s, subst (λ j. Run given j u) same run, subst (λ j. Pick given (suc j) u (on s)) same step)

  -- how a search ended that had gone through its inputs: at a pick, for want of waiting clauses, or of budget
  data Last (given : Given) (n : ℕ) (s : State) : End → ℕ → State → Type 0 where
    picks : {e : End} {t : State} → n < given.budget → Pick given (suc n) s (over e t) → Last given n s e (suc n) t
    waits : n ≤ given.budget → s.waiting ≡ [] → Last given n s saturated n s
    used : n ≡ given.budget → s.waiting ≢ [] → Last given n s spent n s

  abbrev AtLast : Given → End → ℕ → State → Type 0
  AtLast given e m t = (n : ℕ) × (s : State) × Run given n s × Last given n s e m t

  last : (given : Given) (e : End) (m : ℕ) (t : State) → Search given e m t → (Through Offer nothing (normal_forms given.inputs) (over e t) × (m ≡ 0)) ⊎ AtLast given e m t
  last given e m t (at_inputs offers) = inl (offers, refl)
  last given e m t (at_pick {n = n} {s = s} run left step) = inr (n, s, run, picks left step)
  last given e m t (nothing_waits run within none) = inr (m, t, run, waits within none)
  last given e m t (budget_used run up some) = inr (m, t, run, used up some)

  last_within : (given : Given) (n : ℕ) (s : State) (e : End) (m : ℕ) (t : State) → Last given n s e m t → n ≤ given.budget
  last_within given n s e m t (picks left step) = omega arith
  last_within given n s e m t (waits within none) = within
  last_within given n s e m t (used up some) = omega arith

  no_pick : (given : Given) (n : ℕ) (s : State) (o : Passed) → s.waiting ≡ [] → Pick given n s o → ⊥
  no_pick given n s o none (e, picked, steps) = picked_waits (n % given.age == 0) e (subst (λ w. IsPicked given.age n w e) none picked)

  last_stays : (given : Given) (n : ℕ) (s : State) (e : End) (m : ℕ) (t u : State) → Last given n s e m t → n < given.budget → Pick given (suc n) s (on u) → ⊥
  last_stays given n s e m t u (picks left step) less more = on_no_over u t e (pick_one given (suc n) s (on u) (over e t) more step)
  last_stays given n s e m t u (waits within none) less more = no_pick given (suc n) s (on u) none more
  last_stays given n s e m t u (used up some) less more = omega arith

  last_one : (given : Given) (n : ℕ) (s : State) (e f : End) (m k : ℕ) (t u : State) → Last given n s e m t → Last given n s f k u → (e ≡ f) × (m ≡ k) × (t ≡ u)
  last_one given n s e f m k t u (picks left step) (picks left' step') = let both = over_same e f t u (pick_one given (suc n) s (over e t) (over f u) step step') in (both.0, refl, both.1)
  last_one given n s e f m k t u (picks left step) (waits within none) = absurd (no_pick given (suc n) s (over e t) none step)
  last_one given n s e f m k t u (picks left step) (used up some) = absurd (omega arith)
  last_one given n s e f m k t u (waits within none) (picks left step) = absurd (no_pick given (suc n) s (over f u) none step)
  last_one given n s e f m k t u (waits within none) (waits within' none') = (refl, refl, refl)
  last_one given n s e f m k t u (waits within none) (used up some) = absurd (some none)
  last_one given n s e f m k t u (used up some) (picks left step) = absurd (omega arith)
  last_one given n s e f m k t u (used up some) (waits within none) = absurd (some none)
  last_one given n s e f m k t u (used up some) (used up' some') = (refl, refl, refl)

  no_later : (given : Given) (n m k j : ℕ) (s t u v : State) (e f : End) → Run given n s → Last given n s e k u → Run given m t → Last given m t f j v → n < m → ⊥
  no_later given n m k j s t u v e f run here later there less =
      let before = goes_on_before given m t later n less in
      let within = last_within given m t f j v there in
      let same : before.0 ≡ s = run_one given n before.0 s before.2 run in
      last_stays given n s e k u before.1 here (omega arith) (subst (λ w. Pick given (suc n) w (on before.1)) same before.3)

  pub end_one : (given : Given) → OneEnd given
  end_one given e f n m s t first also = at (last given e n s first) (last given f m t also)
    where
      order : (i j : ℕ) → (i < j) ⊎ ((i ≡ j) ⊎ (j < i))
      order i j = grind arith

      at : (Through Offer nothing (normal_forms given.inputs) (over e s) × (n ≡ 0)) ⊎ AtLast given e n s → (Through Offer nothing (normal_forms given.inputs) (over f t) × (m ≡ 0)) ⊎ AtLast given f m t → (e ≡ f) × (n ≡ m) × (s ≡ t)
      at (inl (offers, zeroth)) (inl (offers', zeroth')) =
          let both = over_same e f s t (through_one Offer offer_one (normal_forms given.inputs) nothing (over e s) (over f t) offers offers') in
          (both.0, zeroth ∙ sym zeroth', both.1)
      at (inl (offers, zeroth)) (inr (k, u, run, there)) =
          let start = begins given k u run in absurd (on_no_over start.0 s e (through_one Offer offer_one (normal_forms given.inputs) nothing (on start.0) (over e s) start.1 offers))
      at (inr (k, u, run, here)) (inl (offers, zeroth)) =
          let start = begins given k u run in absurd (on_no_over start.0 t f (through_one Offer offer_one (normal_forms given.inputs) nothing (on start.0) (over f t) start.1 offers))
      at (inr (k, u, run, here)) (inr (j, v, run', there)) = same (order k j)
        where
          same : (k < j) ⊎ ((k ≡ j) ⊎ (j < k)) → (e ≡ f) × (n ≡ m) × (s ≡ t)
          same (inl less) = absurd (no_later given k j n m u v s t e f run here run' there less)
          same (inr (inr less)) = absurd (no_later given j k m n v u t s f e run' there run here less)
          same (inr (inl equal)) =
              let run'' : Run given k v = subst (λ i. Run given i v) (sym equal) run' in
              let states : u ≡ v = run_one given k u v run run'' in
              last_one given k u e f n m s t here (subst (λ w. Last given k w f m t) (sym states) (subst (λ i. Last given i v f m t) (sym equal) there))
