-- What every legal history says of its race.
use Rattle.std.proofs.Common.{◌≡◌, ℕ, List, [], ◌∷◌, ◌++◌, refl, sym, ap, ◌∙◌, subst, arith, Option, Some, None, append-nil, append_assoc}
use Rattle.std.specs.Prelude.{option_and_then, IsSome}
use Rattle.std.proofs.lemmas.List.Folds.{sum_by-replicate}
use Rattle.race_core.specs.declared.race.Race.{Race}
use Rattle.race_core.specs.declared.outcome.Verdict.TheVariants as verdict
use Rattle.race_core.specs.declared.slot.SlotState.TheVariants.{Waiting, Settled}
use Rattle.race_core.specs.declared.event.Event.{Event}
use Rattle.race_core.specs.Steps.{step_of, runs, after, fresh, IsLegal}
use Rattle.race_core.specs.Histories.{HasPassed}
use Rattle.race_core.proofs.Slots.{length-replicate, get-replicate}
use Rattle.race_core.proofs.Invariant.{IsAfter, waiting}
use Rattle.race_core.proofs.Moved.{step-keeps}
use Rattle.race_core.proofs.Carried.{went-on, runs-carry}

begins : (n : ℕ) (until : Option ℕ) → IsAfter n until [] (fresh n until)
begins n until = record {
  slots = length-replicate n Waiting;
  limit = refl;
  winner = refl;
  late = refl;
  passed = λ k s is. (let same : Waiting ≡ s = get-replicate n k Waiting s is in let P : _ → Type 0 = λ x. HasPassed k x [] in subst P same refl);
  outside = λ k past. refl;
  cancelled = λ k is. (let same : Waiting ≡ Settled verdict.Cancelled = get-replicate n k Waiting (Settled verdict.Cancelled) is in cc);
  few = omega (arith, sum_by-replicate waiting n Waiting);
}

-- every legal history is one of the race that it makes
pub after-is : (n : ℕ) (until : Option ℕ) (es : List Event) (r : Race) → after n until es ≡ Some r → IsAfter n until es r
after-is n until es r h = runs-carry (IsAfter n until) (step-keeps n until) [] es (fresh n until) r (begins n until) h

pub some-is : (o : Option Race) → IsSome o → (r : Race) × (o ≡ Some r)
some-is None h = cc
some-is (Some r) h = (r, refl)

pub legal-is : (n : ℕ) (until : Option ℕ) (es : List Event) → IsLegal n until es → (r : Race) × IsAfter n until es r
legal-is n until es h =
    let r = some-is (after n until es) h in
    (r.0, after-is n until es r.0 r.1)

parts : (r : Race) (es fs : List Event) (s : Race) → runs r (es ++ fs) ≡ Some s → (mid : Race) × ((runs r es ≡ Some mid) × (runs mid fs ≡ Some s))
parts r [] fs s h = (r, (refl, h))
parts r (e ∷ es) fs s h =
    let m = went-on (step_of r e) (es ++ fs) s h in
    let p = parts m.0 es fs s m.1.1 in
    (p.0, (ap (option_and_then (λ next. runs next es)) m.1.0 ∙ p.1.0, p.1.1))

-- before an event of a legal history there is a race, in which the event is legal
pub record StepsAt (n : ℕ) (until : Option ℕ) (es : List Event) (e : Event) : Type 0 where
  pub race : Race
  pub next : Race
  pub is : after n until es ≡ Some race
  pub before : IsAfter n until es race
  pub step : step_of race e ≡ Some next

pub steps-at : (n : ℕ) (until : Option ℕ) (es rest : List Event) (e : Event) → IsLegal n until (es ++ e ∷ rest) → StepsAt n until es e
steps-at n until es rest e h =
    let all = some-is (after n until (es ++ e ∷ rest)) h in
    let p = parts (fresh n until) es (e ∷ rest) all.0 all.1 in
    let m = went-on (step_of p.0 e) rest all.0 p.1.1 in
    record { race = p.0; next = m.0; is = p.1.0; before = after-is n until es p.0 p.1.0; step = m.1.0 }
