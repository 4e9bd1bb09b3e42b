use Rattle.std.proofs.Common.{true, subst}
use Rattle.fo_infer.specs.inner.Reading.{SidesAs}
use Rattle.fo_infer.proofs.meeting.is_equation.Goals as goal

pub returns-in-None : goal.returns-in-None
returns-in-None c = λ told. subst (SidesAs c.args.l.now true) c.in-None.is c.sides.ensures
