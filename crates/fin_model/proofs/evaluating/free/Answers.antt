use Rattle.std.proofs.Common.{◌∙◌, ap}
use Rattle.fin_model.specs.Given.{given}
use Rattle.fin_model.specs.inner.Around.{types_of, values_of}
use Rattle.fin_model.proofs.Worths.{free_worth}
use Rattle.fin_model.proofs.evaluating.free.Goals as goal

pub returns : goal.returns
returns c =
    free_worth c.args.world.now (types_of c.args.around.now) (values_of c.args.around.now) c.args.n c.args.ty.now c.looked_up.result c.requires.size.0 c.requires.ready
    (c.looked_up.ensures ∙ ap (λ l. given l c.args.n c.args.ty.now) c.as_slice.ensures) c.requires.size.1
