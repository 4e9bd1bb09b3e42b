use Rattle.std.proofs.Common.{ap, sym, ◌∙◌, arith, Some, inl, refl}
use Rattle.std.specs.Prelude.{is_some, slice_get}
use Rattle.race_board.specs.Drains.{Reading}
use Rattle.race_board.specs.Calls.{changed, with_kept}
use Rattle.race_board.proofs.Settling.{reap-steps, reap-keeps}
use Rattle.race_board.proofs.Seen.{seen-up, seen-id, up-at, up-room, up-unwaited, in-ends}
use Rattle.race_board.proofs.Owned.{own-is}
use Rattle.race_board.proofs.board.Board.reap.Goals as goal

pub reap-requires-clause-started : goal.reap-requires-clause-started
reap-requires-clause-started g c =
    let number = g.L.Pipe.Pipe.number in
    let own = seen-id _ _ _ c.args.slot _ c.self.view_is c.requires.own ∙ ap (λ (d : Reading _). Some (number d.pipe)) (sym c.drained.view_is) ∙ ap Some (sym c.id.ensures) in
    c.self.invariant.0.safe.started c.args.slot c.id.result own

pub reap-requires-clause-unwaited : goal.reap-requires-clause-unwaited
reap-requires-clause-unwaited g c =
    let number = g.L.Pipe.Pipe.number in
    let own = seen-id _ _ _ c.args.slot _ c.self.view_is c.requires.own ∙ ap (λ (d : Reading _). Some (number d.pipe)) (sym c.drained.view_is) ∙ ap Some (sym c.id.ensures) in
    up-unwaited _ _ _ _ _ _ c.args.slot c.id.result c.self.invariant.0 (seen-up _ _ c.args.slot c.self.view_is c.requires.up) own

pub enter-requires-clause-legal : goal.enter-requires-clause-legal
enter-requires-clause-legal g c =
    let up = seen-up _ _ c.args.slot c.self.view_is c.requires.up in
    ap is_some (reap-steps c.self.inside.race c.args.slot _ refl up).1

pub enter-requires-clause-room : goal.enter-requires-clause-room
enter-requires-clause-room g c =
    let up = seen-up _ _ c.args.slot c.self.view_is c.requires.up in
    omega (arith, c.self.inside.history.ok.0, up-room _ _ _ _ _ _ c.args.slot c.self.invariant.0 up)

pub keep_at-requires : goal.keep_at-requires
keep_at-requires g c =
    let s = up-at (slice_get c.self.inside.race.slots c.args.slot) (seen-up _ _ c.args.slot c.self.view_is c.requires.up) in
    omega (arith, c.self.inside.ends.ok.0, in-ends _ _ _ _ _ _ c.args.slot s.0 c.self.invariant.0 s.1)

pub invariant_of-self : goal.invariant_of-self
invariant_of-self g c =
    let number = g.L.Pipe.Pipe.number in
    let b = c.self.invariant.0 in
    let same = ap (λ (d : Reading _). number d.pipe) (sym c.drained.view_is) in
    let own = seen-id _ _ _ c.args.slot _ c.self.view_is c.requires.own ∙ ap Some same ∙ ap Some (sym c.id.ensures) in
    let told = ap (λ (d : Reading _). g.L.Pipe.Pipe.told d.pipe) c.drained.view_is ∙ c.requires.told ∙ ap (λ n. g.N.Name.terms.children n) (same ∙ sym c.id.ensures) in
    let keeps = own-is _ _ _ _ _ _ _ c.drained.invariant told (λ sound. (g.met.L.Pipe.Pipe g.world.𝓛 g.world.𝓜 g.world.𝓡 ((λ s x. x), (λ x. x), (λ x. x), λ x. x)).sound_unfailed _ sound) in (
      reap-keeps _ _ _ _ _ _ _ _ _ _ _ _ c.args.slot c.id.result _ b c.enter.ensures.history c.enter.ensures.race own c.reap.ensures.waits
          (c.keep_at.ensures ∙ ap (λ k. changed (with_kept k) c.args.slot c.self.inside.ends.items) c.own_kept.ensures) (inl (c.id.result, own, keeps)) c.sub.ensures.total c.enter.ensures.capacity,
      c.reap.ensures.same_children ∙ c.self.invariant.1,
    )
