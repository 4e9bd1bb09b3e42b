use Rattle.std.proofs.Common.{subst, take}
use Rattle.kernel_rules.specs.Derivations.{leaves}
use Rattle.sledge_engine.specs.inner.Marks.{Marks}
use Rattle.sledge_engine.proofs.Marking.{leaves_more}
use Rattle.sledge_engine.proofs.used.marked.Goals as goal

pub loop-step-preserved : goal.loop-step-preserved
loop-step-preserved c =
    let steps = c.args.steps.now in
    let i = c.loop-step.step-index in
    subst (λ l. Marks c.args.count l c.mark.new.marks) (leaves_more steps i c.step-item.result c.loop-step-test.true c.step-item.is)
    (c.mark.ensures c.args.count (leaves (take i steps)) c.loop-step.invariant)
