use Rattle.std.proofs.Common.{arith, sym, ◌∙◌}
use Rattle.clause_ring.proofs.Kept.{leaves, first-place, oldest-light, popped, held}
use Rattle.clause_ring.proofs.ring.Ring.pick_old.Goals as goal

pub invariant_of-self : goal.invariant_of-self
invariant_of-self g c =
    let ring = c.self.invariant in
    let leave = c.in-Some.ensures in
    let light = oldest-light c.self.inside.buckets.items c.self.inside.ages c.pop.new.self c.in-Some.entry ring leave in
    let here = held c.self.inside.buckets.items c.in-Some.entry.weight c.index_mut.result.now (omega (arith, ring.many, light)) c.index_mut.ensures.value in
    leaves c.self.inside.buckets.items c.self.inside.ages c.pop.new.self c.in-Some.entry c.pop-in-Some.new.self ring leave
    (popped c.pop-in-Some.result c.index_mut.result.now c.pop-in-Some.new.self leave.place _ c.pop-in-Some.ensures
    (sym here ∙ first-place c.self.inside.buckets.items c.self.inside.ages c.pop.new.self c.in-Some.entry ring leave light))
