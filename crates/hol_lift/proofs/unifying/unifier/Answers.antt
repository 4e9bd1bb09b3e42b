use Rattle.std.proofs.Common.{[], ◌∷◌, subst}
use Rattle.fo_unify.specs.Unifier.{UnifierOf}
use Rattle.hol_lift.proofs.unifying.unifier.Goals as goal

pub unreachable-requires : goal.unreachable-requires
unreachable-requires c = subst (UnifierOf ((c.args.s.now, c.args.t.now) ∷ [])) c.in-None.is c.in_ok-unify.ensures.answer c.requires.0 c.requires.1
