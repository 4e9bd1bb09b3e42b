use Rattle.std.proofs.Common.{arith, ap, ◌∙◌}
use Rattle.race_core.specs.Standings.{Standing, is_listed}
use Rattle.race_outside.proofs.Rooms.{room-left, room-kept}
use Rattle.child_launcher.proofs.account.Account.wait.Goals as goal

pub push_reserved-requires : goal.push_reserved-requires
push_reserved-requires c =
    let started = ap (λ (s : Standing). s.starts) c.self.view_is in
    let apart = ap (λ (s : Standing). is_listed c.args.id s.waits) c.self.view_is ∙ c.requires.unwaited in
    omega (arith, c.self.inside.waits.ok.0, room-left _ _ _ c.args.id c.self.invariant.waited (omega (arith, c.requires.started, started)) apart)

pub invariant_of-self : goal.invariant_of-self
invariant_of-self c =
    let started = ap (λ (s : Standing). s.starts) c.self.view_is in
    let apart = ap (λ (s : Standing). is_listed c.args.id s.waits) c.self.view_is ∙ c.requires.unwaited in
    let i = c.self.invariant in
    record { killed = i.killed; waited = room-kept _ _ _ _ _ c.args.id i.waited (omega (arith, c.requires.started, started)) apart c.push_reserved.ensures.items c.push_reserved.ensures.capacity; bound = i.bound }
