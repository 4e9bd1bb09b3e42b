-- A run of events, event by event.
use Rattle.std.proofs.Common.{◌≡◌, ℕ, ◌<◌, List, [], ◌∷◌, length, ap, arith, None, Some, zero, suc, get_or, drop}
use Rattle.std.specs.Prelude.{option_and_then}
use Rattle.race_core.specs.declared.race.Race.{Race}
use Rattle.race_core.specs.declared.event.Event.{Event}
use Rattle.race_core.specs.Steps.{runs, step_of}

-- a run goes on behind a legal event
pub runs-goes : (r s : Race) (es : List Event) (i : ℕ) (d : Event) → i < length es → step_of r (get_or es i d) ≡ Some s → runs r (drop i es) ≡ runs s (drop (suc i) es)
runs-goes r s [] i d l e = absurd (omega arith)
runs-goes r s (x ∷ es) zero d l e = ap (option_and_then (λ next. runs next es)) e
runs-goes r s (x ∷ es) (suc i) d l e = runs-goes r s es i d (omega arith) e

-- no run goes on behind another one
pub runs-stops : (r : Race) (es : List Event) (i : ℕ) (d : Event) → i < length es → step_of r (get_or es i d) ≡ None → runs r (drop i es) ≡ None
runs-stops r [] i d l e = absurd (omega arith)
runs-stops r (x ∷ es) zero d l e = ap (option_and_then (λ next. runs next es)) e
runs-stops r (x ∷ es) (suc i) d l e = runs-stops r es i d (omega arith) e

pub ruleset running = (runs-goes, runs-stops)
