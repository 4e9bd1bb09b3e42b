use Rattle.fin_model.specs.inner.Around.{types_of, values_of}
use Rattle.fin_model.proofs.Worths.{bound_worth, nothing_typed}
use Rattle.fin_model.proofs.evaluating.bound.Goals as goal

pub unreachable-requires : goal.unreachable-requires
unreachable-requires c = nothing_typed c.args.world.now (types_of c.args.around.now) (values_of c.args.around.now) c.args.i c.requires.ready c.in-None.ensures

pub returns : goal.returns
returns c = bound_worth c.args.world.now (types_of c.args.around.now) (values_of c.args.around.now) c.args.i c.in-Some.value c.requires.size.0 c.requires.ready c.in-Some.ensures.1 c.requires.size.1
