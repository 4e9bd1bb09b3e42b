use Rattle.std.proofs.Common.{◌≡◌, arith, ap, sym, ◌∙◌, subst, Bool, true, false, Option}
use Rattle.std.specs.Prelude.{slice_get}
use Rattle.std.specs.Bool.{OnTrue}
use Rattle.race_core.specs.declared.slot.SlotState.{SlotState}
use Rattle.race_board.specs.Boards.{View}
use Rattle.race_board.specs.Calls.{IsUp}
use Rattle.race_board.proofs.Seen.{up-counts}
use Rattle.race_board.proofs.tests.driver.end.Goals as goal

told : (b : Bool) (P : Type 0) → b ≡ true → OnTrue b P → P
told true P h p = p
told false P h p = cc

pub reap-requires-clause-share : goal.reap-requires-clause-share
reap-requires-clause-share g c κs within =
    let U : Option SlotState → Type 0 = λ o. IsUp o in
    let up : IsUp c.state.result = told c.is_up.result _ c.if-not-is_up.false c.is_up.ensures.up in
    let at : c.state.result ≡ slice_get c.count.new.self.race.slots c.args.slot = c.state.ensures ∙ ap (λ (r : _). slice_get r.slots c.args.slot) c.race.ensures.race ∙ ap (λ (v : View _). slice_get v.race.slots c.args.slot) (sym c.count.ensures.same) in
    omega (arith, c.count.ensures.counted, up-counts c.count.new.self.race.slots c.args.slot (subst U at up))
