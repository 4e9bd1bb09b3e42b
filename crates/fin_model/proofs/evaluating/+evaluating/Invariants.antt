use Rattle.std.proofs.Common.{◌+◌, ◌*◌}
use Rattle.fin_model.specs.inner.Around.{types_of, values_of}
use Rattle.fin_model.specs.inner.Nodes.{nodes}
use Rattle.fin_model.specs.inner.Evaluation.{Passed, BuiltTo}
use Rattle.fin_model.proofs.evaluating.+evaluating.Given as goal

abbrev pub decreases-worth : goal.decreases-worth
decreases-worth l = 8 * nodes l.t.now

abbrev pub decreases-application : goal.decreases-application
decreases-application l = 8 * (nodes l.f.now + nodes l.x.now) + 7

abbrev pub decreases-first : goal.decreases-first
decreases-first l = 8 * nodes l.x.now + 5

abbrev pub decreases-first_under : goal.decreases-first_under
decreases-first_under l = 8 * nodes l.b.now + 4

abbrev pub decreases-lambda : goal.decreases-lambda
decreases-lambda l = 8 * nodes l.b.now + 7

abbrev pub invariant-first_under-loop-v : goal.invariant-first_under-loop-v
invariant-first_under-loop-v l = Passed l.world (types_of l.around) (values_of l.around) l.ty l.b l.wanted l.v

abbrev pub invariant-lambda-loop-i : goal.invariant-lambda-loop-i
invariant-lambda-loop-i l = BuiltTo l.world (types_of l.around) (values_of l.around) l.ty l.b l.base l.count l.i l.number
