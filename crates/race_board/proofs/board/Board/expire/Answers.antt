use Rattle.std.proofs.Common.{ap, sym, ◌∙◌, arith}
use Rattle.std.specs.Prelude.{is_some}
use Rattle.race_core.specs.declared.event.Event.TheVariants.{Expire}
use Rattle.race_core.specs.Steps.{is_open}
use Rattle.race_core.proofs.Stepped.{is_open-true}
use Rattle.race_board.specs.Boards.{View}
use Rattle.race_board.proofs.Expiring.{expire-steps, expire-room, expire-keeps, ticks-keeps}
use Rattle.race_board.proofs.Seen.{killable, ids-length, entered, seen-ticks}
use Rattle.race_board.proofs.board.Board.expire.Goals as goal

pub kill_running-requires-clause-same : goal.kill_running-requires-clause-same
kill_running-requires-clause-same g c κs within = ids-length _ _ _ _ _ _ c.self.invariant.0

pub kill_running-requires-clause-killable : goal.kill_running-requires-clause-killable
kill_running-requires-clause-killable g c κs within =
    let open_now = ap (λ (v : View _). is_open v.race) c.self.view_is ∙ c.requires.«open» in
    killable _ _ _ _ _ _ (ticks-keeps _ _ _ _ _ _ _ _ c.self.invariant.0 c.now-now.ensures.ticks) (is_open-true c.self.inside.race open_now).0

pub enter-requires-clause-legal : goal.enter-requires-clause-legal
enter-requires-clause-legal g c =
    let open_now = ap (λ (v : View _). is_open v.race) c.self.view_is ∙ c.requires.«open» in
    ap is_some (expire-steps c.self.inside.race c.in-Some.until c.now-now.result c.in-Some.is open_now c.if-until-now.true)

pub enter-requires-clause-room : goal.enter-requires-clause-room
enter-requires-clause-room g c =
    let open_now = ap (λ (v : View _). is_open v.race) c.self.view_is ∙ c.requires.«open» in
    omega (arith, c.self.inside.history.ok.0, expire-room _ _ _ _ _ _ c.self.invariant.0 (ap is_some c.in-Some.is) open_now)

pub invariant_of-self : goal.invariant_of-self
invariant_of-self g c = (
  expire-keeps _ _ _ _ _ _ _ _ _ _ _ c.now-now.result c.self.invariant.0 (ap is_some c.in-Some.is) c.enter.ensures.history c.enter.ensures.race c.now-now.ensures.ticks c.kill_running.ensures.kills c.enter.ensures.capacity,
  c.kill_running.ensures.same_children ∙ c.now-now.ensures.same_children ∙ c.self.invariant.1,
)

pub invariant_of-self-else-until-now : goal.invariant_of-self-else-until-now
invariant_of-self-else-until-now g c =
    (ticks-keeps _ _ _ _ _ _ _ _ c.self.invariant.0 c.now-now.ensures.ticks, c.now-now.ensures.same_children ∙ c.self.invariant.1)

pub invariant_of-self-in_default : goal.invariant_of-self-in_default
invariant_of-self-in_default g c =
    (ticks-keeps _ _ _ _ _ _ _ _ c.self.invariant.0 c.now-now.ensures.ticks, c.now-now.ensures.same_children ∙ c.self.invariant.1)

pub returns-in-Some-clause-event : goal.returns-in-Some-clause-event
returns-in-Some-clause-event g c =
    entered _ _ _ (Expire c.now-now.result) _ c.self.view_is c.enter.ensures.history c.enter.ensures.race (ap Expire (sym (c.kill_running.ensures.kills.last ∙ c.now-now.ensures.ticks.last)))

pub returns-in-Some-clause-killed : goal.returns-in-Some-clause-killed
returns-in-Some-clause-killed g c =
    seen-ticks g.N.Name.terms.first.starts c.now-now.result _ _ c.self.inside.ids _ _ c.self.view_is c.self.invariant.0.known c.now-now.ensures.ticks c.kill_running.ensures.kills
