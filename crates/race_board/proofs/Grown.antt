-- What one more event of one slot keeps of a board.
use Rattle.std.proofs.Common.{◌≡◌, ◌≢◌, ℕ, ◌+◌, ◌<◌, ◌≤◌, true, false, List, [], ◌∷◌, ◌++◌, length, map, refl, sym, ap, ◌∙◌, subst, arith, Option, Some, None, inl, inr, length-append}
use Rattle.std.specs.Prelude.{slice_get, sum_by, option_and_then}
use Rattle.std.specs.Option.{option_or}
use Rattle.std.proofs.lemmas.Bool.{false≢true}
use Rattle.std.proofs.lemmas.Bool.Decides.{eqb_tells}
use Rattle.std.proofs.lemmas.Option.{slice_get_within}
use Rattle.race_core.specs.declared.race.Race.{Race}
use Rattle.race_core.specs.declared.slot.SlotEnd.{SlotEnd}
use Rattle.race_core.specs.declared.slot.SlotState.{SlotState}
use Rattle.race_core.specs.declared.slot.SlotState.TheVariants.{Running}
use Rattle.race_core.specs.declared.outcome.Outcome.{Outcome}
use Rattle.race_core.specs.declared.event.Event.{Event}
use Rattle.race_core.specs.Steps.{step_of, runs, after, fresh}
use Rattle.race_core.specs.Histories.{id_of}
use Rattle.race_core.specs.Standings.{Standing, is_listed}
use Rattle.race_core.specs.Ran.{Ran}
use Rattle.race_core.proofs.Carried.{went-on}
use Rattle.race_core.proofs.Slots.{sum-set}
use Rattle.race_core.proofs.Invariant.{Moves, moved-here, moved-elsewhere}
use Rattle.race_core.proofs.Grown.{Adds, ran-grows}
use Rattle.race_board.specs.Ends.{Terms, is_up}
use Rattle.race_board.specs.Boards.{View, up, up_of}
use Rattle.race_board.specs.inner.Kept.{id_in, IsEnd, IsSafe, to_come, to_pass, IsBoard}
use Rattle.race_board.proofs.Ends.{end-push}

pub runs-push : (r s t : Race) (es : List Event) (e : Event) → runs r es ≡ Some s → step_of s e ≡ Some t → runs r (es ++ e ∷ []) ≡ Some t
runs-push r s t [] e is step =
    let same : r ≡ s = cc in
    ap (option_and_then (λ next. runs next [])) (ap (λ x. step_of x e) same ∙ step)
runs-push r s t (x ∷ es) e is step =
    let m = went-on (step_of r x) es s is in
    ap (option_and_then (λ next. runs next (es ++ e ∷ []))) m.1.0 ∙ runs-push m.0 s t es e m.1.1 step

pub or-none-left : (a b : Option ℕ) → option_or a b ≡ None → a ≡ None
or-none-left None b e = refl
or-none-left (Some x) b e = cc

-- a slot moves, and has no child then that could be waited for
pub safe-moves : (f g : ℕ → Option ℕ) (r next : Race) (now later : Standing) (e : Event) (k : ℕ) (s t : SlotState)
    → IsSafe f r now → Moves e k s t r next → is_up t ≡ false → ((j : ℕ) → g j ≡ f j) → later.starts ≡ now.starts
    → ((j i : ℕ) → j ≢ k → f j ≡ Some i → is_listed i now.waits ≡ false → is_listed i later.waits ≡ false) → (next.winner ≡ None → later.kills ≡ now.kills) → IsSafe g next later
safe-moves f g r next now later e k s t was m down same starts waits kills =
    let within : k < length r.slots = slice_get_within r.slots k s m.at in
    let here : (j : ℕ) (u : SlotState) → j ≡ k → slice_get next.slots j ≡ Some u → is_up u ≡ true → ⊥ = λ j u p at up. (let is : t ≡ u = moved-here r next k t u within m.slots (ap (slice_get next.slots) (sym p) ∙ at) in false≢true (sym down ∙ ap is_up is ∙ up)) in
    record {
      started = λ j i own. omega (arith, was.started j i (sym (same j) ∙ own), starts);
      unwaited = λ j i u at up own.
          elim (eqb_tells j k) [
            | inl p ↦ absurd (here j u p.1 at up)
            | inr p ↦ waits j i p.1 (sym (same j) ∙ own) (was.unwaited j i u (moved-elsewhere r next k j t u m.slots p.1 at) up (sym (same j) ∙ own))
          ];
      unkilled = λ j i none at own.
          elim (eqb_tells j k) [
            | inl p ↦ absurd (here j Running p.1 at refl)
            | inr p ↦ ap (is_listed i) (kills none) ∙ was.unkilled j i (or-none-left r.winner _ (sym m.winner ∙ none)) (moved-elsewhere r next k j t Running m.slots p.1 at) (sym (same j) ∙ own)
          ];
    }

-- one more event of one slot
pub grows : {P : Type 0} (answers : List ℕ → Outcome P → Type 0) (terms : Terms) (v : View P) (next : Race) (ends : List (SlotEnd P)) (now : Standing) (es : List Event) (ids jds : List (Option ℕ)) (total sum capacity room : ℕ) (e : Event) (k : ℕ) (s t : SlotState)
    → IsBoard answers terms v ids total capacity → es ≡ v.events ++ e ∷ [] → step_of v.race e ≡ Some next → Moves e k s t v.race next
    → Adds terms.first terms.orders v.events v.race e v.launcher now
    → map (λ end. end.order) ends ≡ map (λ end. end.order) v.ends → ((j : ℕ) → j ≢ k → slice_get ends j ≡ slice_get v.ends j)
    → ((end : SlotEnd P) → slice_get ends k ≡ Some end → IsEnd answers terms v.race.until k t end (v.events ++ e ∷ []))
    → length jds ≡ length ids → ((j : ℕ) → id_in jds j ≡ id_of terms.first.starts (v.events ++ e ∷ []) j) → IsSafe (id_of terms.first.starts (v.events ++ e ∷ [])) next now
    → sum + up s ≡ total + up t → to_come t + 1 ≤ to_come s → room ≡ capacity
    → IsBoard answers terms (record { events = es; race = next; ends = ends; launcher = now }) jds sum room
grows {P} answers terms v next ends now es ids jds total sum capacity room e k s t b events step m adds orders others mine each known safe count fewer same =
    let all : List Event = v.events ++ e ∷ [] in
    let A : List Event → Type 0 = λ l. IsBoard answers terms (record { events = l; race = next; ends = ends; launcher = now }) jds sum room in
    let L : Option ℕ → Type 0 = λ u. after (length terms.orders) u all ≡ Some next in
    let R : Option ℕ → Type 0 = λ u. Ran terms.first now terms.orders terms.limit u all in
    let within : k < length v.race.slots = slice_get_within v.race.slots k s m.at in
    let pass : to_pass next.until next.late ≡ to_pass v.race.until v.race.late = ap (λ u. to_pass u next.late) m.until ∙ ap (λ l. to_pass v.race.until l) m.late in
    subst A (sym events) (record {
      some = b.some;
      few = b.few;
      legal = subst L (sym m.until) (runs-push (fresh (length terms.orders) v.race.until) v.race next v.events e b.legal step);
      ran = subst R (sym m.until) (ran-grows terms.first v.launcher now terms.orders terms.limit v.race.until v.events v.race next e b.legal step b.ran adds);
      orders = orders ∙ b.orders;
      ends = λ j u end at held.
          (let U : Option ℕ → Type 0 = λ x. IsEnd answers terms x j u end all in
          subst U (sym m.until) (elim (eqb_tells j k) [
            | inl p ↦
                (let is : t ≡ u = moved-here v.race next k t u within m.slots (ap (slice_get next.slots) (sym p.1) ∙ at) in
                let S : SlotState → Type 0 = λ x. IsEnd answers terms v.race.until k x end all in
                let K : ℕ → Type 0 = λ x. IsEnd answers terms v.race.until x u end all in
                subst K (sym p.1) (subst S is (mine end (ap (slice_get ends) (sym p.1) ∙ held))))
            | inr p ↦ end-push answers terms v.race.until j u end v.events e (b.ends j u end (moved-elsewhere v.race next k j t u m.slots p.1 at) (sym (others j p.1) ∙ held))
          ]));
      each = each ∙ b.each;
      known = known;
      safe = safe;
      counted = omega (arith, b.counted, count, ap up_of m.slots, sum-set up v.race.slots k s t m.at);
      room = omega (arith, b.room, pass, same, fewer, ap (sum_by to_come) m.slots, sum-set to_come v.race.slots k s t m.at, length-append v.events (e ∷ []));
    })
