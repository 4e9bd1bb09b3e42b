use Rattle.std.proofs.Common.{ap, sym, subst, ◌∙◌, arith, Err, Some, ℕ}
use Rattle.std.specs.Prelude.{is_some}
use Rattle.race_core.specs.declared.slot.SlotState.TheVariants.{Waiting}
use Rattle.race_core.specs.Steps.{is_open}
use Rattle.race_board.specs.Boards.{View}
use Rattle.race_board.proofs.Moving.{room-left, order-at}
use Rattle.race_board.proofs.Launching.{start-is, launch-keeps, no_start-keeps, no_room-keeps, launch-id, launch-range}
use Rattle.race_board.proofs.Seen.{seen-slot, in-ends, in-ids, launches-up}
use Rattle.race_board.proofs.Lists.{get-at}
use Rattle.race_board.specs.Ends.{IsOfRace}
use Rattle.race_core.specs.Histories.{id_of}
use Rattle.race_outside.specs.Pipes.{Told, IsFresh}
use Rattle.race_board.proofs.board.Board.launch.Goals as goal

pub index-requires : goal.index-requires
index-requires g c =
    let at = seen-slot _ _ c.args.slot _ c.self.view_is c.requires.waiting in
    omega (arith, c.self.inside.ends.ok.0, in-ends _ _ _ _ _ _ c.args.slot Waiting c.self.invariant.0 at)

pub enter-requires-clause-legal : goal.enter-requires-clause-legal
enter-requires-clause-legal g c =
    let at = seen-slot _ _ c.args.slot _ c.self.view_is c.requires.waiting in
    ap is_some (start-is c.self.inside.race c.args.slot _ at (ap (λ (v : View _). is_open v.race) c.self.view_is ∙ c.requires.open))

pub enter-requires-clause-room : goal.enter-requires-clause-room
enter-requires-clause-room g c =
    let at = seen-slot _ _ c.args.slot _ c.self.view_is c.requires.waiting in
    omega (arith, c.self.inside.history.ok.0, room-left _ _ _ _ _ _ c.args.slot Waiting c.self.invariant.0 at (omega arith))

pub set-requires : goal.set-requires
set-requires g c =
    let at = seen-slot _ _ c.args.slot _ c.self.view_is c.requires.waiting in
    in-ids _ _ _ _ _ _ c.args.slot Waiting c.self.invariant.0 at

pub invariant_of-self : goal.invariant_of-self
invariant_of-self g c =
    let at = seen-slot _ _ c.args.slot _ c.self.view_is c.requires.waiting in
    let b = c.self.invariant.0 in
    let e = c.in-Ok.ensures in
    let held = get-at c.self.inside.ends.items c.args.slot _ (omega (arith, c.self.inside.ends.ok.0, in-ends _ _ _ _ _ _ c.args.slot Waiting b at)) c.index.ensures in (
      launch-keeps _ _ _ _ _ _ _ _ _ _ _ _ c.args.slot c.in-Ok.id _ b at (order-at _ _ _ _ _ _ c.args.slot _ b held) c.enter.ensures.history c.enter.ensures.race e.started e.killed e.waited e.id c.set.ensures c.add.ensures.total c.enter.ensures.capacity,
      e.same_children ∙ c.self.invariant.1,
    )

pub enter-requires-in-Failed-clause-legal : goal.enter-requires-in-Failed-clause-legal
enter-requires-in-Failed-clause-legal g c =
    let at = seen-slot _ _ c.args.slot _ c.self.view_is c.requires.waiting in
    ap is_some (start-is c.self.inside.race c.args.slot _ at (ap (λ (v : View _). is_open v.race) c.self.view_is ∙ c.requires.open))

pub enter-requires-in-Failed-clause-room : goal.enter-requires-in-Failed-clause-room
enter-requires-in-Failed-clause-room g c =
    let at = seen-slot _ _ c.args.slot _ c.self.view_is c.requires.waiting in
    omega (arith, c.self.inside.history.ok.0, room-left _ _ _ _ _ _ c.args.slot Waiting c.self.invariant.0 at (omega arith))

pub end_at-requires : goal.end_at-requires
end_at-requires g c =
    let at = seen-slot _ _ c.args.slot _ c.self.view_is c.requires.waiting in
    omega (arith, c.self.inside.ends.ok.0, in-ends _ _ _ _ _ _ c.args.slot Waiting c.self.invariant.0 at)

pub invariant_of-self-in-Failed : goal.invariant_of-self-in-Failed
invariant_of-self-in-Failed g c =
    let at = seen-slot _ _ c.args.slot _ c.self.view_is c.requires.waiting in
    let e = c.in-Err.ensures in (
      no_start-keeps _ _ _ _ _ _ _ _ _ _ _ c.args.slot c.self.invariant.0 at c.enter-in-Failed.ensures.history c.enter-in-Failed.ensures.race e.refused (e.cause (ap Err c.in-Failed.is)) c.end_at.ensures c.enter-in-Failed.ensures.capacity,
      e.same_children ∙ c.self.invariant.1,
    )

pub enter-requires-in-NoMemory-clause-legal : goal.enter-requires-in-NoMemory-clause-legal
enter-requires-in-NoMemory-clause-legal g c =
    let at = seen-slot _ _ c.args.slot _ c.self.view_is c.requires.waiting in
    ap is_some (start-is c.self.inside.race c.args.slot _ at (ap (λ (v : View _). is_open v.race) c.self.view_is ∙ c.requires.open))

pub enter-requires-in-NoMemory-clause-room : goal.enter-requires-in-NoMemory-clause-room
enter-requires-in-NoMemory-clause-room g c =
    let at = seen-slot _ _ c.args.slot _ c.self.view_is c.requires.waiting in
    omega (arith, c.self.inside.history.ok.0, room-left _ _ _ _ _ _ c.args.slot Waiting c.self.invariant.0 at (omega arith))

pub end_at-requires-in-NoMemory : goal.end_at-requires-in-NoMemory
end_at-requires-in-NoMemory g c =
    let at = seen-slot _ _ c.args.slot _ c.self.view_is c.requires.waiting in
    omega (arith, c.self.inside.ends.ok.0, in-ends _ _ _ _ _ _ c.args.slot Waiting c.self.invariant.0 at)

pub invariant_of-self-in-NoMemory : goal.invariant_of-self-in-NoMemory
invariant_of-self-in-NoMemory g c =
    let at = seen-slot _ _ c.args.slot _ c.self.view_is c.requires.waiting in
    let e = c.in-Err.ensures in (
      no_room-keeps _ _ _ _ _ _ _ _ _ _ _ c.args.slot c.self.invariant.0 at c.enter-in-NoMemory.ensures.history c.enter-in-NoMemory.ensures.race e.refused c.end_at-in-NoMemory.ensures c.enter-in-NoMemory.ensures.capacity,
      e.same_children ∙ c.self.invariant.1,
    )

pub returns-in-Ok-clause-launcher : goal.returns-in-Ok-clause-launcher
returns-in-Ok-clause-launcher g c =
    let at = seen-slot _ _ c.args.slot _ c.self.view_is c.requires.waiting in
    let b = c.self.invariant.0 in
    let held = get-at c.self.inside.ends.items c.args.slot _ (omega (arith, c.self.inside.ends.ok.0, in-ends _ _ _ _ _ _ c.args.slot Waiting b at)) c.index.ensures in
    launches-up g.N.Name.terms.orders _ _ c.args.slot _ _ c.in-Ok.pipe c.self.view_is (order-at _ _ _ _ _ _ c.args.slot _ b held) c.in-Ok.ensures.started

pub returns-in-Ok-clause-id : goal.returns-in-Ok-clause-id
returns-in-Ok-clause-id g c =
    let at = seen-slot _ _ c.args.slot _ c.self.view_is c.requires.waiting in
    ap (λ es. id_of g.N.Name.terms.first.starts es c.args.slot) c.enter.ensures.history ∙ launch-id _ _ _ _ _ _ c.args.slot c.self.invariant.0 at ∙ ap Some (sym c.in-Ok.ensures.pipe.number_is)

pub returns-in-Ok-clause-range : goal.returns-in-Ok-clause-range
returns-in-Ok-clause-range g c =
    let at = seen-slot _ _ c.args.slot _ c.self.view_is c.requires.waiting in
    let R : ℕ → Type 0 = λ i. IsOfRace g.N.Name.terms i in
    subst R (sym c.in-Ok.ensures.pipe.number_is) (launch-range _ _ _ _ _ _ _ c.args.slot c.self.invariant.0 at c.enter.ensures.race)

pub returns-in-Ok-clause-pipe : goal.returns-in-Ok-clause-pipe
returns-in-Ok-clause-pipe g c =
    let first : ℕ = (g.L.Launcher.standing c.self.inside.launcher).starts in
    let T : (ℕ → Told) → Type 0 = λ f. IsFresh (g.L.Pipe.Pipe.number c.in-Ok.pipe) (g.L.Pipe.Pipe.faults c.in-Ok.pipe) (g.L.Pipe.Pipe.told c.in-Ok.pipe) (g.L.Pipe.Pipe.left c.in-Ok.pipe) first (f first) in
    let V : View _ → Type 0 = λ v. IsFresh (g.L.Pipe.Pipe.number c.in-Ok.pipe) (g.L.Pipe.Pipe.faults c.in-Ok.pipe) (g.L.Pipe.Pipe.told c.in-Ok.pipe) (g.L.Pipe.Pipe.left c.in-Ok.pipe) v.launcher.starts (g.N.Name.terms.children v.launcher.starts) in
    subst V c.self.view_is (subst T c.self.invariant.1 c.in-Ok.ensures.pipe)
