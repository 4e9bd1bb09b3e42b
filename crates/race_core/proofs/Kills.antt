-- The slots that a history kills and reaps, event by event.
use Rattle.std.proofs.Common.{◌≡◌, ◌≢◌, ℕ, ◌+◌, Bool, true, false, cond, List, [], ◌∷◌, ◌++◌, refl, sym, ap, ◌∙◌, Option, Some, None, inl, inr, append-nil, append_assoc, eq-eqb}
use Rattle.std.specs.Prelude.{◌==◌, option_and_then, option_map, unwrap_or, is_none, not, ◌&&◌, if◌then◌else◌}
use Rattle.std.specs.List.{filter_map, cons_option}
use Rattle.race_core.specs.declared.race.Race.{Race}
use Rattle.race_core.specs.declared.outcome.Verdict.{Verdict}
use Rattle.race_core.specs.declared.outcome.Verdict.TheVariants as verdict
use Rattle.race_core.specs.declared.event.Event.{Event}
use Rattle.race_core.specs.declared.event.Event.TheVariants.{Launch, NoStart, NoRoom, Reap, Settle, Skip, Expire}
use Rattle.race_core.specs.Steps.{step_of, runs, is_open, winner_after}
use Rattle.race_core.specs.Histories.{events_of, id_of}
use Rattle.race_core.specs.Ran.{reaped, reaped_by, killed, killed_by, running, ids_of}
use Rattle.race_core.proofs.Stepped.{started-some, reaped-some, settled-some, skipped-some, expired-some, is_open-true}
use Rattle.race_core.proofs.Carried.{went-on}
use Rattle.race_core.proofs.Ids.{id-apart, none-of}

nothing-then : (o : Option Race) → unwrap_or (option_map (λ (next : Race). killed next []) o) [] ≡ []
nothing-then None = refl
nothing-then (Some r) = refl

-- one more event kills what it kills in the race that then is
pub killed-push : (r s : Race) (es : List Event) (e : Event) → runs r es ≡ Some s → killed r (es ++ e ∷ []) ≡ killed r es ++ killed_by s e
killed-push r s [] e h =
    let same : r ≡ s = cc in
    ap (λ l. killed_by r e ++ l) (nothing-then (step_of r e)) ∙ append-nil (killed_by r e) ∙ ap (λ x. killed_by x e) same
killed-push r s (x ∷ es) e h =
    let m = went-on (step_of r x) es s h in
    ap (λ o. killed_by r x ++ unwrap_or (option_map (λ next. killed next (es ++ e ∷ [])) o) []) m.1.0
    ∙ ap (λ l. killed_by r x ++ l) (killed-push m.0 s es e m.1.1)
    ∙ sym (append_assoc (killed_by r x) (killed m.0 es) (killed_by s e))
    ∙ ap (λ o. (killed_by r x ++ unwrap_or (option_map (λ next. killed next es) o) []) ++ killed_by s e) (sym m.1.0)

pub wins : (w : Option ℕ) (k : ℕ) → winner_after w k verdict.Proved ≡ None → ⊥
wins None k e = cc
wins (Some x) k e = cc

pub unwon : (r : Race) (k : ℕ) (v : Verdict) → winner_after r.winner k v ≡ None → killed_by r (Settle k v) ≡ []
unwon r k verdict.Proved e = absurd (wins r.winner k e)
unwon r k _ e = refl

pub was-none : (w : Option ℕ) (k : ℕ) (v : Verdict) → winner_after w k v ≡ None → w ≡ None
was-none None k v e = refl
was-none (Some x) k v e = e

open-from : (r : Race) → r.winner ≡ None → r.late ≡ false → is_open r ≡ true
open-from r w l = ap (λ o. is_none o && not r.late) w ∙ ap not l

-- behind a step into an open race nothing was killed, and the race was open before
still-open : (r s : Race) (e : Event) → step_of r e ≡ Some s → is_open s ≡ true → (is_open r ≡ true) × (killed_by r e ≡ [])
still-open r s (Launch k) step o = ((started-some r k _ _ s step).1, refl)
still-open r s (NoStart k) step o = ((started-some r k _ _ s step).1, refl)
still-open r s (NoRoom k) step o = ((started-some r k _ _ s step).1, refl)
still-open r s (Reap k) step o =
    elim (reaped-some r k _ s step) [
      | inl p ↦ (sym (ap is_open p.1) ∙ o, refl)
      | inr p ↦ (sym (ap is_open p.1) ∙ o, refl)
    ]
still-open r s (Settle k v) step o =
    let h = settled-some r k v _ s step in
    let both = is_open-true s o in
    let none : winner_after r.winner k v ≡ None = sym (ap (λ (x : Race). x.winner) h.1) ∙ both.0 in
    let timely : r.late ≡ false = sym (ap (λ (x : Race). x.late) h.1) ∙ both.1 in
    (open-from r (was-none r.winner k v none) timely, unwon r k v none)
still-open r s (Skip k) step o =
    elim (skipped-some r k _ s step).1 [
      | inl p ↦ (sym (ap is_open p.1) ∙ o, refl)
      | inr p ↦ (sym (ap is_open p.1) ∙ o, refl)
    ]
still-open r s (Expire m) step o =
    let h = expired-some r m s step in
    let late : true ≡ false = sym (ap (λ (x : Race). x.late) h.2) ∙ (is_open-true s o).1 in
    cc

-- a history that ends in an open race kills nobody
pub unkilled : (r s : Race) (es : List Event) → runs r es ≡ Some s → is_open s ≡ true → (is_open r ≡ true) × (killed r es ≡ [])
unkilled r s [] h o =
    let same : r ≡ s = cc in
    (ap is_open same ∙ o, refl)
unkilled r s (x ∷ es) h o =
    let m = went-on (step_of r x) es s h in
    let rest = unkilled m.0 s es m.1.1 o in
    let first = still-open r m.0 x m.1.0 rest.0 in (
      first.0,
      ap (λ p. killed_by r x ++ unwrap_or (option_map (λ next. killed next es) p) []) m.1.0
          ∙ ap (λ l. killed_by r x ++ l) rest.1 ∙ append-nil (killed_by r x) ∙ first.1,
    )

-- a slot without events was not reaped: the ids of the reaped slots stay where it is launched
pub reaped-apart : (n : ℕ) (all es : List Event) (k : ℕ) → events_of k es ≡ [] → ids_of n (all ++ Launch k ∷ []) (reaped es) ≡ ids_of n all (reaped es)
reaped-apart n all [] k h = refl
reaped-apart n all (Launch j ∷ es) k h = reaped-apart n all es k (none-of (j == k) (Launch j) (events_of k es) h).1
reaped-apart n all (NoStart j ∷ es) k h = reaped-apart n all es k (none-of (j == k) (NoStart j) (events_of k es) h).1
reaped-apart n all (NoRoom j ∷ es) k h = reaped-apart n all es k (none-of (j == k) (NoRoom j) (events_of k es) h).1
reaped-apart n all (Reap j ∷ es) k h =
    let p = none-of (j == k) (Reap j) (events_of k es) h in
    let apart : j ≢ k = λ same. (let yes : (j == k) ≡ true = eq-eqb j k same in let no : (j == k) ≡ false = p.0 in cc) in
    ap (λ o. cons_option o (ids_of n (all ++ Launch k ∷ []) (reaped es))) (id-apart n all j k apart)
    ∙ ap (λ l. cons_option (id_of n all j) l) (reaped-apart n all es k p.1)
reaped-apart n all (Settle j v ∷ es) k h = reaped-apart n all es k (none-of (j == k) (Settle j v) (events_of k es) h).1
reaped-apart n all (Skip j ∷ es) k h = reaped-apart n all es k (none-of (j == k) (Skip j) (events_of k es) h).1
reaped-apart n all (Expire m ∷ es) k h = reaped-apart n all es k h
