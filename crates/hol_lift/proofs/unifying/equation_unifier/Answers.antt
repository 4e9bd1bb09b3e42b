use Rattle.hol_lift.proofs.Unifiers.{sides_have}
use Rattle.hol_lift.proofs.unifying.equation_unifier.Goals as goal

pub unifier-requires : goal.unifier-requires
unifier-requires c = sides_have c.args.a.now c.in-Eq.s c.in-Eq.t c.in-Eq.is c.requires
