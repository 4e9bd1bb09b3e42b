use Rattle.std.proofs.Common.{[], ◌∷◌}
use Rattle.fo_infer.specs.Inferences.{atom_equations}
use Rattle.fo_infer.proofs.Factorings.{atoms_answer}
use Rattle.fo_infer.proofs.single.unify_atoms.Goals as goal

pub returns-in_ok-u-in-Holds-Holds : goal.returns-in_ok-u-in-Holds-Holds
returns-in_ok-u-in-Holds-Holds c =
    atoms_answer c.args.a.now c.args.b.now ((c.in-Holds-Holds.s, c.in-Holds-Holds.t) ∷ []) c.in_ok-u-in-Holds-Holds.u (λ i. atom_equations (c.in-Holds-Holds.is-0 i) (c.in-Holds-Holds.is-1 i))
    c.in_ok-u-in-Holds-Holds.ensures

pub returns-in_ok-u-in-Eq-Eq : goal.returns-in_ok-u-in-Eq-Eq
returns-in_ok-u-in-Eq-Eq c =
    atoms_answer c.args.a.now c.args.b.now ((c.in-Eq-Eq.s, c.in-Eq-Eq.x) ∷ (c.in-Eq-Eq.t, c.in-Eq-Eq.y) ∷ []) c.in_ok-u-in-Eq-Eq.u (λ i. atom_equations (c.in-Eq-Eq.is-0 i) (c.in-Eq-Eq.is-1 i))
    c.in_ok-u-in-Eq-Eq.ensures
