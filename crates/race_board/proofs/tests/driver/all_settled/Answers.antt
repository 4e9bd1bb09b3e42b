use Rattle.std.proofs.Common.{◌≡◌, arith, length, subst, sym, ap, ◌∙◌, All, true, zero, suc, List, [], ◌∷◌, get_or, take}
use Rattle.std.proofs.lemmas.List.{take_all, take_more}
use Rattle.std.proofs.lemmas.List.Elements.{All-append}
use Rattle.race_core.specs.declared.slot.SlotState.{SlotState}
use Rattle.race_core.specs.declared.slot.SlotState.TheVariants.{Waiting}
use Rattle.race_board.specs.Boards.{is_settled}
use Rattle.race_board.proofs.tests.driver.all_settled.Goals as goal

one : (s : SlotState) → is_settled s ≡ true → All (λ x. is_settled x ≡ true) (s ∷ [])
one s is zero d within = is
one s is (suc k) d within = absurd (omega arith)

pub loop-state-preserved : goal.loop-state-preserved
loop-state-preserved c =
    let slots = c.args.race.now.slots in
    let i = c.loop-state.state-index in
    let same = c.as_slice-state-items.ensures in
    let A : List SlotState → Type 0 = λ l. All (λ s. is_settled s ≡ true) l in
    let here : is_settled (get_or slots i Waiting) ≡ true = ap (λ l. is_settled (get_or l i Waiting)) (sym same) ∙ ap is_settled c.in-Settled.is in
    subst A (sym (take_more slots i Waiting (omega (arith, c.loop-state-test.true, ap length same)))) (All-append (λ s. is_settled s ≡ true) (take i slots) (get_or slots i Waiting ∷ []) c.loop-state.invariant (one (get_or slots i Waiting) here))

pub returns : goal.returns
returns c =
    let A : List SlotState → Type 0 = λ l. All (λ s. is_settled s ≡ true) l in
    subst A (take_all c.loop-state.state-index c.args.race.now.slots (omega (arith, c.loop-state-test.false, ap length c.as_slice-state-items.ensures))) c.loop-state.invariant
