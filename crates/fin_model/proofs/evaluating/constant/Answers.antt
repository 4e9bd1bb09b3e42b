use Rattle.fin_model.specs.inner.Around.{types_of, values_of}
use Rattle.fin_model.proofs.Worths.{con_worth, con_bare}
use Rattle.fin_model.proofs.evaluating.constant.Goals as goal

pub bare-requires-clause-bare : goal.bare-requires-clause-bare
bare-requires-clause-bare c = con_bare c.args.world.now (types_of c.args.around.now) (values_of c.args.around.now) c.args.k.now c.requires.size.0 c.requires.ready c.requires.size.1

pub returns : goal.returns
returns c = con_worth c.args.world.now (types_of c.args.around.now) (values_of c.args.around.now) c.args.k.now c.bare.result c.requires.size.0 c.requires.ready c.bare.ensures c.requires.size.1
