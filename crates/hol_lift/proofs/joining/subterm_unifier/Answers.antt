use Rattle.hol_lift.proofs.Unifiers.{subterm_has}
use Rattle.hol_lift.proofs.joining.subterm_unifier.Goals as goal

pub unifier-requires : goal.unifier-requires
unifier-requires c = subterm_has c.args.s.now c.in-Some.u.now c.args.a.now c.args.path.now c.in-Some.ensures c.requires
