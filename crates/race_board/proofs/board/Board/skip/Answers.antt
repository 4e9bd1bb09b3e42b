use Rattle.std.proofs.Common.{ap, ◌∙◌, arith}
use Rattle.std.specs.Prelude.{is_some}
use Rattle.race_core.specs.declared.slot.SlotState.TheVariants.{Waiting}
use Rattle.race_core.specs.Steps.{is_open}
use Rattle.race_board.specs.Ends.{skipped_end}
use Rattle.race_board.specs.Boards.{View}
use Rattle.race_board.specs.Calls.{changed, with_outcome}
use Rattle.race_board.proofs.Moving.{room-left}
use Rattle.race_board.proofs.Settling.{skip-steps, skip-keeps}
use Rattle.race_board.proofs.Seen.{seen-slot, in-ends}
use Rattle.race_board.proofs.board.Board.skip.Goals as goal

pub enter-requires-clause-legal : goal.enter-requires-clause-legal
enter-requires-clause-legal g c =
    let at = seen-slot _ _ c.args.slot _ c.self.view_is c.requires.waiting in
    let over = ap (λ (v : View _). is_open v.race) c.self.view_is ∙ c.requires.over in
    ap is_some (skip-steps c.self.inside.race c.args.slot at over)

pub enter-requires-clause-room : goal.enter-requires-clause-room
enter-requires-clause-room g c =
    let at = seen-slot _ _ c.args.slot _ c.self.view_is c.requires.waiting in
    omega (arith, c.self.inside.history.ok.0, room-left _ _ _ _ _ _ c.args.slot Waiting c.self.invariant.0 at (omega arith))

pub end_at-requires : goal.end_at-requires
end_at-requires g c =
    let at = seen-slot _ _ c.args.slot _ c.self.view_is c.requires.waiting in
    omega (arith, c.self.inside.ends.ok.0, in-ends _ _ _ _ _ _ c.args.slot Waiting c.self.invariant.0 at)

pub invariant_of-self : goal.invariant_of-self
invariant_of-self g c =
    let at = seen-slot _ _ c.args.slot _ c.self.view_is c.requires.waiting in
    let over = ap (λ (v : View _). is_open v.race) c.self.view_is ∙ c.requires.over in
    let put = c.end_at.ensures ∙ ap (λ o. changed (with_outcome o) c.args.slot c.self.inside.ends.items) (c.skipped_end.ensures ∙ ap skipped_end c.is_some-won.ensures) in
    (skip-keeps _ _ _ _ _ _ _ _ _ _ c.args.slot c.self.invariant.0 at over c.enter.ensures.history c.enter.ensures.race put c.enter.ensures.capacity, c.self.invariant.1)
