use Rattle.std.proofs.Common.{ap, sym, ◌∙◌, arith, refl}
use Rattle.std.specs.Prelude.{is_some, option_and_then, slice_get}
use Rattle.std.proofs.lemmas.Bool.{false≢true}
use Rattle.race_board.specs.Drains.{Reading}
use Rattle.race_board.specs.Ends.{only_stray}
use Rattle.race_board.specs.Calls.{changed, with_kept}
use Rattle.race_board.proofs.Settling.{reap-steps, reap-keeps}
use Rattle.race_board.proofs.Seen.{seen-up, up-at, up-room, up-id, up-unwaited, in-ends, in-ids, stray-keeps, seen-waits}
use Rattle.race_board.proofs.board.Board.reap_lost.Goals as goal

pub at-requires : goal.at-requires
at-requires g c =
    let s = up-at (slice_get c.self.inside.race.slots c.args.slot) (seen-up _ _ c.args.slot c.self.view_is c.requires.up) in
    in-ids _ _ _ _ _ _ c.args.slot s.0 c.self.invariant.0 s.1

pub unreachable-requires : goal.unreachable-requires
unreachable-requires g c =
    let b = c.self.invariant.0 in
    let none = sym (b.known c.args.slot) ∙ ap (option_and_then (λ x. x)) c.at.ensures ∙ c.in_default.is in
    false≢true (sym (ap is_some none) ∙ up-id _ _ _ _ _ _ c.args.slot b (seen-up _ _ c.args.slot c.self.view_is c.requires.up))

pub reap-requires-clause-started : goal.reap-requires-clause-started
reap-requires-clause-started g c =
    let b = c.self.invariant.0 in
    let own = sym (b.known c.args.slot) ∙ ap (option_and_then (λ x. x)) c.at.ensures ∙ c.in-Some.is in
    b.safe.started c.args.slot c.in-Some.id own

pub reap-requires-clause-unwaited : goal.reap-requires-clause-unwaited
reap-requires-clause-unwaited g c =
    let b = c.self.invariant.0 in
    let own = sym (b.known c.args.slot) ∙ ap (option_and_then (λ x. x)) c.at.ensures ∙ c.in-Some.is in
    up-unwaited _ _ _ _ _ _ c.args.slot c.in-Some.id b (seen-up _ _ c.args.slot c.self.view_is c.requires.up) own

pub enter-requires-clause-legal : goal.enter-requires-clause-legal
enter-requires-clause-legal g c =
    let up = seen-up _ _ c.args.slot c.self.view_is c.requires.up in
    ap is_some (reap-steps c.self.inside.race c.args.slot _ refl up).1

pub enter-requires-clause-room : goal.enter-requires-clause-room
enter-requires-clause-room g c =
    let up = seen-up _ _ c.args.slot c.self.view_is c.requires.up in
    omega (arith, c.self.inside.history.ok.0, up-room _ _ _ _ _ _ c.args.slot c.self.invariant.0 up)

pub keep_at-requires : goal.keep_at-requires
keep_at-requires g c =
    let s = up-at (slice_get c.self.inside.race.slots c.args.slot) (seen-up _ _ c.args.slot c.self.view_is c.requires.up) in
    omega (arith, c.self.inside.ends.ok.0, in-ends _ _ _ _ _ _ c.args.slot s.0 c.self.invariant.0 s.1)

pub invariant_of-self : goal.invariant_of-self
invariant_of-self g c =
    let b = c.self.invariant.0 in
    let own = sym (b.known c.args.slot) ∙ ap (option_and_then (λ x. x)) c.at.ensures ∙ c.in-Some.is in
    let same = ap (λ (d : Reading _). g.L.Pipe.Pipe.number d.pipe) (sym c.stray.view_is) ∙ sym c.id.ensures in (
      reap-keeps _ _ _ _ _ _ _ _ _ _ _ _ c.args.slot c.in-Some.id (only_stray c.id.result) b c.enter.ensures.history c.enter.ensures.race own c.reap.ensures.waits
          (c.keep_at.ensures ∙ ap (λ k. changed (with_kept k) c.args.slot c.self.inside.ends.items) c.stray_kept-kept.ensures)
          (stray-keeps _ _ _ _ _ _ _ c.args.slot _ c.id.result b c.self.view_is same c.requires.range c.requires.free) c.sub.ensures.total c.enter.ensures.capacity,
      c.reap.ensures.same_children ∙ c.self.invariant.1,
    )

pub returns-clause-waits : goal.returns-clause-waits
returns-clause-waits g c =
    let b = c.self.invariant.0 in
    let own = sym (b.known c.args.slot) ∙ ap (option_and_then (λ x. x)) c.at.ensures ∙ c.in-Some.is in
    seen-waits g.N.Name.terms.first.starts _ _ c.args.slot c.in-Some.id _ c.self.view_is own c.reap.ensures.waits
