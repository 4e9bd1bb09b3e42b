use Rattle.std.proofs.Common.{[], sym, subst}
use Rattle.fo_unify.specs.Unifier.{Unifies}
use Rattle.fo_unify.specs.Unified.{put_sides, Unified, done}
use Rattle.fo_unify.specs.inner.Triangle.{solution}
use Rattle.fo_unify.specs.Shown.{as_binds, shown}
use Rattle.fo_unify.specs.inner.Leads.{Goes}
use Rattle.fo_unify.proofs.Reducing.{shown_push, goes_done, goes_carries, goes_smaller, goes_clash, goes_binds, goes_binding}
use Rattle.fo_unify.proofs.triangle.next.Goals as goal

pub loop-e-preserved : goal.loop-e-preserved
loop-e-preserved c =
    let bs = as_binds c.args.binds.now in
    let e = c.in-Some.e in
    let inv = c.loop-e.invariant in
    let popped = shown_push c.loop-e.work c.pop.new.self e c.in-Some.ensures in
    let goes = subst (Goes bs e.left.now e.right.now (shown c.pop.new.self) (shown c.reduce.new.work)) c.in-Done.is c.in_ok-reduce.ensures in
    record {
      same = goes_done bs (shown c.args.work.now) (shown c.loop-e.work) (shown c.pop.new.self) (e.left.now, e.right.now) inv.same inv.carries popped (shown c.reduce.new.work) goes;
      carries = goes_carries bs (shown c.args.work.now) (shown c.loop-e.work) (shown c.pop.new.self) (e.left.now, e.right.now) inv.same inv.carries popped (shown c.reduce.new.work) goes;
    }

pub loop-e-smaller : goal.loop-e-smaller
loop-e-smaller c =
    let bs = as_binds c.args.binds.now in
    let e = c.in-Some.e in
    let inv = c.loop-e.invariant in
    goes_smaller bs (shown c.args.work.now) (shown c.loop-e.work) (shown c.pop.new.self) (e.left.now, e.right.now) inv.same inv.carries (shown_push c.loop-e.work c.pop.new.self e c.in-Some.ensures)
    (shown c.reduce.new.work) (subst (Goes bs e.left.now e.right.now (shown c.pop.new.self) (shown c.reduce.new.work)) c.in-Done.is c.in_ok-reduce.ensures)

pub returns-in-Clash : goal.returns-in-Clash
returns-in-Clash c =
    let bs = as_binds c.args.binds.now in
    let e = c.in-Some.e in
    let inv = c.loop-e.invariant in
    goes_clash bs (shown c.args.work.now) (shown c.loop-e.work) (shown c.pop.new.self) (e.left.now, e.right.now) inv.same inv.carries (shown_push c.loop-e.work c.pop.new.self e c.in-Some.ensures)
    (shown c.reduce.new.work) (subst (Goes bs e.left.now e.right.now (shown c.pop.new.self) (shown c.reduce.new.work)) c.in-Clash.is c.in_ok-reduce.ensures)

pub returns-in-Binds : goal.returns-in-Binds
returns-in-Binds c =
    let bs = as_binds c.args.binds.now in
    let e = c.in-Some.e in
    let inv = c.loop-e.invariant in
    let popped = shown_push c.loop-e.work c.pop.new.self e c.in-Some.ensures in
    let goes = subst (Goes bs e.left.now e.right.now (shown c.pop.new.self) (shown c.reduce.new.work)) c.in-Binds.is c.in_ok-reduce.ensures in (
      goes_binds bs (shown c.args.work.now) (shown c.loop-e.work) (shown c.pop.new.self) (e.left.now, e.right.now) inv.same inv.carries popped (shown c.reduce.new.work)
          (record { var = c.in-Binds.x; term = c.in-Binds.t.now }) goes.0 goes.1,
      goes_binding bs (shown c.args.work.now) (shown c.loop-e.work) (shown c.pop.new.self) (e.left.now, e.right.now) inv.same inv.carries popped (shown c.reduce.new.work)
          (record { var = c.in-Binds.x; term = c.in-Binds.t.now }) goes.2,
    )

pub returns : goal.returns
returns c =
    let u = solution (as_binds c.args.binds.now) in (
      λ v solves. (c.loop-e.invariant.same v solves).1 (subst (λ w. Unifies v (shown w)) (sym c.in_default.ensures.0) tt),
      c.loop-e.invariant.carries [] (subst (λ w. Unified (put_sides u (shown w)) []) (sym c.in_default.ensures.0) done),
    )
