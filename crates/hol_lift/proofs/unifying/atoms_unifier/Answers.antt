use Rattle.std.proofs.Common.{[], ◌∷◌}
use Rattle.fo_infer.specs.Inferences.{atom_equations}
use Rattle.hol_lift.proofs.Unifiers.{atoms_have}
use Rattle.hol_lift.proofs.unifying.atoms_unifier.Goals as goal

pub unifier-requires : goal.unifier-requires
unifier-requires c = atoms_have c.args.a.now c.args.b.now ((c.in-Holds.s, c.in-Holds-b.t) ∷ []) (λ i. atom_equations (c.in-Holds.is i) (c.in-Holds-b.is i)) c.requires

pub unifier_of_both-requires : goal.unifier_of_both-requires
unifier_of_both-requires c = atoms_have c.args.a.now c.args.b.now ((c.in-Eq.s, c.in-Eq-b-2.x) ∷ (c.in-Eq.t, c.in-Eq-b-2.y) ∷ []) (λ i. atom_equations (c.in-Eq.is i) (c.in-Eq-b-2.is i)) c.requires
