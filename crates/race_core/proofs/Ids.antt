-- The id of a slot is the place of its launch among the launches.
use Rattle.std.proofs.Common.{◌≡◌, ◌≢◌, ℕ, ◌+◌, ◌<◌, ◌≤◌, ◌⊎◌, Bool, true, false, cond, List, [], ◌∷◌, ◌++◌, length, refl, sym, ap, ◌∙◌, arith, eq-eqb, Option, Some, None, inl, inr, zero, suc, add-zero, append-nil}
use Rattle.std.specs.Prelude.{◌==◌, Contains, IsSome, is_some}
use Rattle.std.specs.List.{position_from, filter_map, cons_option}
use Rattle.std.proofs.lemmas.Bool.Decides.{eqb_tells}
use Rattle.std.proofs.lemmas.List.Elements.{filter_map-append}
use Rattle.race_core.specs.declared.event.Event.{Event}
use Rattle.race_core.specs.declared.event.Event.TheVariants.{Launch, NoStart, NoRoom, Reap, Settle, Skip, Expire}
use Rattle.race_core.specs.Histories.{events_of, launched, launched_by, id_of}
use Rattle.race_core.specs.Ran.{ids_of}

-- the place of a number, counted from n
abbrev pub place : ℕ → List ℕ → ℕ → Option ℕ
place n js k = position_from (λ j. j == k) n js

place-here : (n : ℕ) (js : List ℕ) (j k : ℕ) → (j == k) ≡ true → place n (j ∷ js) k ≡ Some n
place-here n js j k e = ap (λ b. cond b (Some n) (place (n + 1) js k)) e

place-there : (n : ℕ) (js : List ℕ) (j k : ℕ) → (j == k) ≡ false → place n (j ∷ js) k ≡ place (n + 1) js k
place-there n js j k e = ap (λ b. cond b (Some n) (place (n + 1) js k)) e

-- a place is one of the list's
pub place-within : (n : ℕ) (js : List ℕ) (k i : ℕ) → place n js k ≡ Some i → (n ≤ i) × (i < n + length js)
place-within n [] k i e = cc
place-within n (j ∷ js) k i e =
    elim (eqb_tells j k) [
      | inl p ↦ (let now : Some n ≡ Some i = sym (place-here n js j k p.0) ∙ e in let same : n ≡ i = cc in (omega arith, omega arith))
      | inr p ↦ (let more = place-within (n + 1) js k i (sym (place-there n js j k p.0) ∙ e) in (omega (arith, more.0), omega (arith, more.1)))
    ]

-- one place holds one number
pub place-unique : (n : ℕ) (js : List ℕ) (j k i : ℕ) → place n js j ≡ Some i → place n js k ≡ Some i → j ≡ k
place-unique n [] j k i d e = cc
place-unique n (x ∷ js) j k i d e =
    elim (eqb_tells x j) [
      | inl p ↦
          (let now : Some n ≡ Some i = sym (place-here n js x j p.0) ∙ d in
          let same : n ≡ i = cc in
          elim (eqb_tells x k) [
            | inl q ↦ sym p.1 ∙ q.1
            | inr q ↦ (let far = place-within (n + 1) js k i (sym (place-there n js x k q.0) ∙ e) in absurd (omega (arith, far.0)))
          ])
      | inr p ↦
          elim (eqb_tells x k) [
            | inl q ↦
                (let now : Some n ≡ Some i = sym (place-here n js x k q.0) ∙ e in
                let same : n ≡ i = cc in
                let far = place-within (n + 1) js j i (sym (place-there n js x j p.0) ∙ d) in absurd (omega (arith, far.0)))
            | inr q ↦ place-unique (n + 1) js j k i (sym (place-there n js x j p.0) ∙ d) (sym (place-there n js x k q.0) ∙ e)
          ]
    ]

-- the place behind a list that lacks the number
pub place-behind : (n : ℕ) (js ks : List ℕ) (k : ℕ) → place n js k ≡ None → place n (js ++ k ∷ ks) k ≡ Some (n + length js)
place-behind n [] ks k e = place-here n ks k k (eq-eqb k k refl) ∙ ap Some (sym (add-zero n))
place-behind n (j ∷ js) ks k e =
    elim (eqb_tells j k) [
      | inl p ↦ (let now : Some n ≡ None = sym (place-here n js j k p.0) ∙ e in cc)
      | inr p ↦
          (let next : n + 1 + length js ≡ n + suc (length js) = omega arith in
          place-there n (js ++ k ∷ ks) j k p.0 ∙ place-behind (n + 1) js ks k (sym (place-there n js j k p.0) ∙ e) ∙ ap Some next)
    ]

pub none-of : (b : Bool) (e : Event) (l : List Event) → cond b (e ∷ l) l ≡ [] → (b ≡ false) × (l ≡ [])
none-of true e l h = cc
none-of false e l h = (refl, h)

-- a slot without events has no id
pub id-none : (n : ℕ) (es : List Event) (k : ℕ) → events_of k es ≡ [] → id_of n es k ≡ None
id-none n [] k h = refl
id-none n (Launch j ∷ es) k h =
    let p = none-of (j == k) (Launch j) (events_of k es) h in place-there n (launched es) j k p.0 ∙ id-none (n + 1) es k p.1
id-none n (NoStart j ∷ es) k h = id-none n es k (none-of (j == k) (NoStart j) (events_of k es) h).1
id-none n (NoRoom j ∷ es) k h = id-none n es k (none-of (j == k) (NoRoom j) (events_of k es) h).1
id-none n (Reap j ∷ es) k h = id-none n es k (none-of (j == k) (Reap j) (events_of k es) h).1
id-none n (Settle j v ∷ es) k h = id-none n es k (none-of (j == k) (Settle j v) (events_of k es) h).1
id-none n (Skip j ∷ es) k h = id-none n es k (none-of (j == k) (Skip j) (events_of k es) h).1
id-none n (Expire m ∷ es) k h = id-none n es k h

-- the id that a launch gives
pub id-launched : (n : ℕ) (es rest : List Event) (k : ℕ) → id_of n es k ≡ None → id_of n (es ++ Launch k ∷ rest) k ≡ Some (n + length (launched es))
id-launched n es rest k h =
    ap (λ js. place n js k) (filter_map-append launched_by es (Launch k ∷ rest)) ∙ place-behind n (launched es) (launched rest) k h

later : {A : Type 0} (x y : A) (xs : List A) → Contains xs y → Contains (x ∷ xs) y
later x y xs h = (suc h.0, omega (arith, h.1), h.2)

-- a slot with an id was launched
pub id-launches : (n : ℕ) (es : List Event) (k : ℕ) → IsSome (id_of n es k) → Contains es (Launch k)
id-launches n [] k h = cc
id-launches n (Launch j ∷ es) k h =
    elim (eqb_tells j k) [
      | inl p ↦ (zero, omega arith, ap Launch p.1)
      | inr p ↦ later (Launch j) (Launch k) es (id-launches (n + 1) es k (sym (ap is_some (place-there n (launched es) j k p.0)) ∙ h))
    ]
id-launches n (NoStart j ∷ es) k h = later (NoStart j) (Launch k) es (id-launches n es k h)
id-launches n (NoRoom j ∷ es) k h = later (NoRoom j) (Launch k) es (id-launches n es k h)
id-launches n (Reap j ∷ es) k h = later (Reap j) (Launch k) es (id-launches n es k h)
id-launches n (Settle j v ∷ es) k h = later (Settle j v) (Launch k) es (id-launches n es k h)
id-launches n (Skip j ∷ es) k h = later (Skip j) (Launch k) es (id-launches n es k h)
id-launches n (Expire m ∷ es) k h = later (Expire m) (Launch k) es (id-launches n es k h)

-- whether the launch stands first or later
held : (x y : Event) (es : List Event) → Contains (x ∷ es) y → (x ≡ y) ⊎ Contains es y
held x y es (zero, within, same) = inl same
held x y es (suc i, within, same) = inr (i, omega arith, same)

launch-later : (e : Event) (es : List Event) (k : ℕ) → launched_by e ≡ None → Contains (e ∷ es) (Launch k) → Contains es (Launch k)
launch-later e es k none h =
    elim (held e (Launch k) es h) [
      | inl p ↦ (let now : None ≡ Some k = sym none ∙ ap launched_by p in cc)
      | inr p ↦ p
    ]

-- a launched slot has an id
pub id-some : (n : ℕ) (es : List Event) (k : ℕ) → Contains es (Launch k) → IsSome (id_of n es k)
id-some n [] k h = absurd (omega (arith, h.1))
id-some n (Launch j ∷ es) k h =
    elim (eqb_tells j k) [
      | inl p ↦ ap is_some (place-here n (launched es) j k p.0)
      | inr p ↦
          elim (held (Launch j) (Launch k) es h) [
            | inl q ↦ absurd (p.1 cc)
            | inr q ↦ ap is_some (place-there n (launched es) j k p.0) ∙ id-some (n + 1) es k q
          ]
    ]
id-some n (NoStart j ∷ es) k h = id-some n es k (launch-later (NoStart j) es k refl h)
id-some n (NoRoom j ∷ es) k h = id-some n es k (launch-later (NoRoom j) es k refl h)
id-some n (Reap j ∷ es) k h = id-some n es k (launch-later (Reap j) es k refl h)
id-some n (Settle j v ∷ es) k h = id-some n es k (launch-later (Settle j v) es k refl h)
id-some n (Skip j ∷ es) k h = id-some n es k (launch-later (Skip j) es k refl h)
id-some n (Expire m ∷ es) k h = id-some n es k (launch-later (Expire m) es k refl h)

-- an event that is no launch changes no id
pub launched-stays : (es : List Event) (e : Event) → launched_by e ≡ None → launched (es ++ e ∷ []) ≡ launched es
launched-stays es e none =
    filter_map-append launched_by es (e ∷ []) ∙ ap (λ o. launched es ++ cons_option o []) none ∙ append-nil (launched es)

pub id-stays : (n : ℕ) (es : List Event) (e : Event) (k : ℕ) → launched_by e ≡ None → id_of n (es ++ e ∷ []) k ≡ id_of n es k
id-stays n es e k none = ap (λ js. place n js k) (launched-stays es e none)

pub ids-stay : (n : ℕ) (es : List Event) (e : Event) (ks : List ℕ) → launched_by e ≡ None → ids_of n (es ++ e ∷ []) ks ≡ ids_of n es ks
ids-stay n es e ks none = ap (λ js. filter_map (λ k. place n js k) ks) (launched-stays es e none)

place-apart : (n : ℕ) (js : List ℕ) (j k : ℕ) → j ≢ k → place n (js ++ k ∷ []) j ≡ place n js j
place-apart n [] j k apart =
    elim (eqb_tells k j) [
      | inl p ↦ absurd (apart (sym p.1))
      | inr p ↦ place-there n [] k j p.0
    ]
place-apart n (x ∷ js) j k apart =
    ap (λ o. cond (x == j) (Some n) o) (place-apart (n + 1) js j k apart)

-- the launch of another slot doesn't change an id
pub id-apart : (n : ℕ) (es : List Event) (j k : ℕ) → j ≢ k → id_of n (es ++ Launch k ∷ []) j ≡ id_of n es j
id-apart n es j k apart =
    ap (λ js. place n js j) (filter_map-append launched_by es (Launch k ∷ [])) ∙ place-apart n (launched es) j k apart
