use Rattle.std.proofs.Common.{Bool, true, subst}
use Rattle.fo_index.specs.Fronts.{marks}
use Rattle.fo_index.specs.inner.Gathered.{Gathers}
use Rattle.fo_index.proofs.Walks.{gathers-stop, gathers-more}
use Rattle.fo_index.proofs.front.+gathering.Goals as goal

pub gather_all-returns-then-not-branch : goal.gather_all-returns-then-not-branch
gather_all-returns-then-not-branch t c =
    let P : Bool → Type 0 = λ b. Gathers c.loop-t.done (marks c.t-item.result) b c.gather.new.done in
    gathers-stop c.args.terms.now c.loop-t.t-index c.t-item.result c.args.done.now c.loop-t.done c.gather.new.done c.loop-t-test.true c.t-item.is c.loop-t.invariant
    (subst P c.if-not-branch.true c.in_ok-gather.ensures)

pub gather_all-loop-t-preserved : goal.gather_all-loop-t-preserved
gather_all-loop-t-preserved t c =
    let P : Bool → Type 0 = λ b. Gathers c.loop-t.done (marks c.t-item.result) b c.gather.new.done in
    gathers-more c.args.terms.now c.loop-t.t-index c.t-item.result c.args.done.now c.loop-t.done c.gather.new.done true c.loop-t-test.true c.t-item.is c.loop-t.invariant
    (subst P c.if-not-branch.false c.in_ok-gather.ensures)
