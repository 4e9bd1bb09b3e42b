-- What every legal step keeps holds after every legal history.
use Rattle.std.proofs.Common.{◌≡◌, ℕ, List, [], ◌∷◌, ◌++◌, refl, sym, subst, Option, Some, None, append-nil, append_assoc}
use Rattle.std.specs.Prelude.{option_and_then}
use Rattle.race_core.specs.declared.race.Race.{Race}
use Rattle.race_core.specs.declared.event.Event.{Event}
use Rattle.race_core.specs.Steps.{step_of, runs}

pub went-on : (o : Option Race) (es : List Event) (s : Race) → option_and_then (λ next. runs next es) o ≡ Some s → (mid : Race) × ((o ≡ Some mid) × (runs mid es ≡ Some s))
went-on None es s h = cc
went-on (Some mid) es s h = (mid, (refl, h))

pub runs-carry : (P : List Event → Race → Type 0) → ((es : List Event) (r next : Race) (e : Event) → P es r → step_of r e ≡ Some next → P (es ++ e ∷ []) next)
    → (before es : List Event) (r s : Race) → P before r → runs r es ≡ Some s → P (before ++ es) s
runs-carry P keeps before [] r s was h =
    let same : r ≡ s = cc in
    let A : Race → Type 0 = λ x. P before x in
    let B : List Event → Type 0 = λ l. P l s in
    subst B (sym (append-nil before)) (subst A same was)
runs-carry P keeps before (e ∷ es) r s was h =
    let m = went-on (step_of r e) es s h in
    let B : List Event → Type 0 = λ l. P l s in
    subst B (append_assoc before (e ∷ []) es) (runs-carry P keeps (before ++ e ∷ []) es m.0 s (keeps before r m.0 e was m.1.0) m.1.1)
