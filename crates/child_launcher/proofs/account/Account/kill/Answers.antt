use Rattle.std.proofs.Common.{arith, ap, ◌∙◌}
use Rattle.race_core.specs.Standings.{Standing, is_listed}
use Rattle.race_outside.proofs.Rooms.{room-left, room-kept}
use Rattle.child_launcher.proofs.account.Account.kill.Goals as goal

pub push_reserved-requires : goal.push_reserved-requires
push_reserved-requires c =
    let started = ap (λ (s : Standing). s.starts) c.self.view_is in
    let apart = ap (λ (s : Standing). is_listed c.args.id s.kills) c.self.view_is ∙ c.requires.unkilled in
    omega (arith, c.self.inside.kills.ok.0, room-left _ _ _ c.args.id c.self.invariant.killed (omega (arith, c.requires.started, started)) apart)

pub invariant_of-self : goal.invariant_of-self
invariant_of-self c =
    let started = ap (λ (s : Standing). s.starts) c.self.view_is in
    let apart = ap (λ (s : Standing). is_listed c.args.id s.kills) c.self.view_is ∙ c.requires.unkilled in
    let i = c.self.invariant in
    record { killed = room-kept _ _ _ _ _ c.args.id i.killed (omega (arith, c.requires.started, started)) apart c.push_reserved.ensures.items c.push_reserved.ensures.capacity; waited = i.waited; bound = i.bound }
