use Rattle.std.proofs.Common.{ℕ, List, arith, subst}
use Rattle.fo_index.specs.inner.Collected.{Collects}
use Rattle.fo_index.proofs.Collecting.{Found, collects-shorter-more, collects-found, all-met}
use Rattle.fo_index.proofs.meeting.met.Goals as goal

pub loop-length-preserved : goal.loop-length-preserved
loop-length-preserved c =
    collects-shorter-more c.args.filed.now c.args.front.now c.args.whole.now c.loop-length.length c.at.result.now c.new-ids.result.items c.loop-length.ids.items c.collect.new.ids.items c.at.ensures
    c.loop-length.invariant c.in_ok-collect.ensures

pub returns-clause-all : goal.returns-clause-all
returns-clause-all c =
    let found =
    collects-found c.args.filed.now c.args.front.now c.args.whole.now c.args.begun.now c.loop-length.length c.at-2.result.now c.new-ids.result.items c.loop-length.ids.items c.collect-2.new.ids.items
    (omega arith) (omega arith) c.at-2.ensures c.loop-length.invariant c.in_ok-collect-2.ensures
    in
    let P : List ℕ → Type 0 = λ l. Collects c.args.filed.now c.args.front.now (Found c.args.filed.now c.args.front.now c.args.whole.now c.args.begun.now) l c.collect-2.new.ids.items in
    all-met c.args.filed.now c.args.front.now c.args.whole.now c.args.begun.now c.collect-2.new.ids.items c.requires (subst P c.new-ids.ensures.items found)
