-- What a legal history says of the race that it has made.
use Rattle.std.proofs.Common.{◌≡◌, ◌≢◌, ℕ, ◌+◌, ◌<◌, ◌≤◌, Bool, true, false, cond, List, [], ◌∷◌, ◌++◌, length, refl, sym, ap, ◌∙◌, subst, arith, eq-eqb, Option, Some, None, inl, inr, append-nil, length-append, MatchBool}
use Rattle.std.specs.Prelude.{◌==◌, slice_get, slice_set, sum_by, is_some}
use Rattle.std.specs.Option.{option_or}
use Rattle.std.specs.List.{filter_map, cons_option}
use Rattle.std.proofs.lemmas.Bool.Decides.{eqb_tells}
use Rattle.std.proofs.lemmas.Bool.{eqb-true}
use Rattle.std.proofs.lemmas.List.{length-set}
use Rattle.std.proofs.lemmas.List.Elements.{filter-append, filter_map-append}
use Rattle.std.proofs.lemmas.Option.{slice_get_within}
use Rattle.race_core.specs.declared.race.Race.{Race}
use Rattle.race_core.specs.declared.outcome.Verdict.TheVariants as verdict
use Rattle.race_core.specs.declared.slot.SlotState.{SlotState}
use Rattle.race_core.specs.declared.slot.SlotState.TheVariants.{Waiting, Settled}
use Rattle.race_core.specs.declared.event.Event.{Event}
use Rattle.race_core.specs.Histories.{is_of, events_of, HasPassed, proved_by, first_proved, moment_of, expiries, launched_by, launched}
use Rattle.race_core.proofs.Slots.{get-set-same, get-set-other, sum-set}

-- how many slots still wait
abbrev pub waiting : SlotState → ℕ
waiting Waiting = 1
waiting _ = 0

-- the limit of time has passed once where the race is late, else never
abbrev pub IsLateBy : Bool → List ℕ → Type 0
IsLateBy late moments = MatchBool late ((m : ℕ) × (moments ≡ m ∷ [])) (moments ≡ [])

-- what a history and the race after it have to do with each other
pub record IsAfter (n : ℕ) (until : Option ℕ) (es : List Event) (r : Race) : Type 0 where
  pub slots : length r.slots ≡ n
  pub limit : r.until ≡ until
  pub winner : r.winner ≡ first_proved es
  pub late : IsLateBy r.late (expiries es)
  pub passed : (k : ℕ) (s : SlotState) → slice_get r.slots k ≡ Some s → HasPassed k s (events_of k es)
  pub outside : (k : ℕ) → n ≤ k → events_of k es ≡ []
  pub cancelled : (k : ℕ) → slice_get r.slots k ≡ Some (Settled verdict.Cancelled) → is_some r.winner ≡ true
  pub few : length (launched es) + sum_by waiting r.slots ≤ n

-- one more event of a history, in each of its lists
pub first_proved-push : (es : List Event) (e : Event) → first_proved (es ++ e ∷ []) ≡ option_or (first_proved es) (proved_by e)
first_proved-push [] e = elim (proved_by e) as (λ o. option_or o None ≡ o) [ None ↦ refl | Some k ↦ refl ]
first_proved-push (x ∷ es) e =
    ap (option_or (proved_by x)) (first_proved-push es e) ∙ elim (proved_by x) as (λ o. option_or o (option_or (first_proved es) (proved_by e)) ≡ option_or (option_or o (first_proved es)) (proved_by e)) [ None ↦ refl | Some k ↦ refl ]

pub events-mine : (k : ℕ) (es : List Event) (e : Event) → is_of k e ≡ true → events_of k (es ++ e ∷ []) ≡ events_of k es ++ e ∷ []
events-mine k es e mine = filter-append (is_of k) es (e ∷ []) ∙ ap (λ b. events_of k es ++ cond b (e ∷ []) []) mine

pub events-others : (k : ℕ) (es : List Event) (e : Event) → is_of k e ≡ false → events_of k (es ++ e ∷ []) ≡ events_of k es
events-others k es e other =
    filter-append (is_of k) es (e ∷ []) ∙ ap (λ b. events_of k es ++ cond b (e ∷ []) []) other ∙ append-nil (events_of k es)

-- a step that moves one slot from a state to another
pub record Moves (e : Event) (k : ℕ) (s t : SlotState) (r next : Race) : Type 0 where
  pub mine : (j : ℕ) → is_of j e ≡ (k == j)
  pub at : slice_get r.slots k ≡ Some s
  pub slots : next.slots ≡ slice_set r.slots k t
  pub winner : next.winner ≡ option_or r.winner (proved_by e)
  pub until : next.until ≡ r.until
  pub late : next.late ≡ r.late
  pub moment : moment_of e ≡ None
  pub way : (es : List Event) → HasPassed k s es → HasPassed k t (es ++ e ∷ [])
  pub cancelled : t ≡ Settled verdict.Cancelled → is_some next.winner ≡ true
  pub fewer : length (filter_map launched_by (e ∷ [])) + waiting t ≤ waiting s

some-or : (o p : Option ℕ) → is_some o ≡ true → is_some (option_or o p) ≡ true
some-or (Some k) p h = refl
some-or None p h = cc

no-moment : (es : List Event) (e : Event) → moment_of e ≡ None → expiries (es ++ e ∷ []) ≡ expiries es
no-moment es e none =
    filter_map-append moment_of es (e ∷ []) ∙ ap (λ o. expiries es ++ cons_option o []) none ∙ append-nil (expiries es)

-- where a slot that is in this state after a move was before
pub moved-elsewhere : (r next : Race) (k j : ℕ) (t s : SlotState) → next.slots ≡ slice_set r.slots k t → j ≢ k → slice_get next.slots j ≡ Some s → slice_get r.slots j ≡ Some s
moved-elsewhere r next k j t s slots apart is =
    sym (get-set-other r.slots k j t apart) ∙ ap (λ l. slice_get l j) (sym slots) ∙ is

pub moved-here : (r next : Race) (k : ℕ) (t s : SlotState) → k < length r.slots → next.slots ≡ slice_set r.slots k t → slice_get next.slots k ≡ Some s → t ≡ s
moved-here r next k t s within slots is =
    let now : Some t ≡ Some s = sym (get-set-same r.slots k t within) ∙ ap (λ l. slice_get l k) (sym slots) ∙ is in
    cc

-- what stands of the slot that moves
way-of-mover : (n : ℕ) (until : Option ℕ) (es : List Event) (r next : Race) (e : Event) (k : ℕ) (s t u : SlotState) → IsAfter n until es r → Moves e k s t r next → slice_get next.slots k ≡ Some u → HasPassed k u (events_of k (es ++ e ∷ []))
way-of-mover n until es r next e k s t u was m is =
    let same : t ≡ u = moved-here r next k t u (slice_get_within r.slots k s m.at) m.slots is in
    let mine : is_of k e ≡ true = m.mine k ∙ eq-eqb k k refl in
    let P : SlotState → Type 0 = λ x. HasPassed k x (events_of k (es ++ e ∷ [])) in
    let Q : List Event → Type 0 = λ x. HasPassed k t x in
    subst P same (subst Q (sym (events-mine k es e mine)) (m.way (events_of k es) (was.passed k s m.at)))

apart-is : (k j : ℕ) (b : Bool) → (k == j) ≡ b → j ≢ k → b ≡ false
apart-is k j true e apart = absurd (apart (sym (eqb-true k j e)))
apart-is k j false e apart = refl

-- what stands of each other slot
way-of-other : (n : ℕ) (until : Option ℕ) (es : List Event) (r next : Race) (e : Event) (k j : ℕ) (s t u : SlotState) → IsAfter n until es r → Moves e k s t r next → j ≢ k → slice_get next.slots j ≡ Some u → HasPassed j u (events_of j (es ++ e ∷ []))
way-of-other n until es r next e k j s t u was m apart is =
    let other : is_of j e ≡ false = m.mine j ∙ apart-is k j (k == j) refl apart in
    let P : List Event → Type 0 = λ x. HasPassed j u x in
    subst P (sym (events-others j es e other)) (was.passed j u (moved-elsewhere r next k j t u m.slots apart is))

-- a move of one slot keeps it all
pub moves-keep : (n : ℕ) (until : Option ℕ) (es : List Event) (r next : Race) (e : Event) (k : ℕ) (s t : SlotState) → IsAfter n until es r → Moves e k s t r next → IsAfter n until (es ++ e ∷ []) next
moves-keep n until es r next e k s t was m =
    let within : k < length r.slots = slice_get_within r.slots k s m.at in
    record {
      slots = ap length m.slots ∙ length-set r.slots k t ∙ was.slots;
      limit = m.until ∙ was.limit;
      winner = m.winner ∙ ap (λ w. option_or w (proved_by e)) was.winner ∙ sym (first_proved-push es e);
      late = (let P : Bool → Type 0 = λ b. IsLateBy b (expiries (es ++ e ∷ [])) in
          let Q : List ℕ → Type 0 = λ l. IsLateBy r.late l in
          subst P (sym m.late) (subst Q (sym (no-moment es e m.moment)) was.late));
      passed = λ j u is.
          elim (eqb_tells j k) [
            | inl p ↦ (let P : ℕ → Type 0 = λ x. slice_get next.slots x ≡ Some u → HasPassed x u (events_of x (es ++ e ∷ [])) in
                subst P (sym p.1) (way-of-mover n until es r next e k s t u was m) is)
            | inr p ↦ way-of-other n until es r next e k j s t u was m p.1 is
          ];
      outside = λ j past.
          (let other : is_of j e ≡ false = m.mine j ∙ apart-is k j (k == j) refl (λ same. absurd (omega (arith, was.slots))) in
          events-others j es e other ∙ was.outside j past);
      cancelled = λ j is.
          elim (eqb_tells j k) [
            | inl p ↦ m.cancelled (moved-here r next k t (Settled verdict.Cancelled) within m.slots (ap (slice_get next.slots) (sym p.1) ∙ is))
            | inr p ↦ ap is_some m.winner ∙ some-or r.winner (proved_by e) (was.cancelled j (moved-elsewhere r next k j t (Settled verdict.Cancelled) m.slots p.1 is))
          ];
      few = (let more : length (launched (es ++ e ∷ [])) ≡ length (launched es) + length (filter_map launched_by (e ∷ [])) = ap length (filter_map-append launched_by es (e ∷ [])) ∙ length-append (launched es) _ in
          let sums : sum_by waiting next.slots + waiting s ≡ sum_by waiting r.slots + waiting t = ap (λ l. sum_by waiting l + waiting s) m.slots ∙ sum-set waiting r.slots k s t m.at in
          omega (arith, was.few, m.fewer));
    }
