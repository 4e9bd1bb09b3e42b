use Rattle.std.proofs.Common.{subst, sym}
use Rattle.fo_infer.specs.Inferences.{Alone}
use Rattle.fo_infer.proofs.single.alone.Goals as goal

pub returns : goal.returns
returns c = subst (Alone c.args.p.now) (sym c.in_ok-made.ensures) c.in_ok-found.ensures.inferences
