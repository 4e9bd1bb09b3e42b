-- Formulas as code makes them.
use Rattle.std.proofs.Common.{◌≡◌, refl}
use Rattle.hol_terms.specs.declared.ty.Ty.{Ty}
use Rattle.hol_terms.specs.declared.term.Term.{Term}
use Rattle.hol_formulas.specs.declared.formula.Junction.{Junction}
use Rattle.hol_formulas.specs.declared.formula.Quantifier.{Quantifier}
use Rattle.hol_formulas.specs.declared.formula.Formula as formula
use Rattle.hol_formulas.specs.declared.formula.Formula.{Formula, roll-Formula}
use Rattle.hol_formulas.specs.declared.formula.Formula.TheOpen.{Formula-F}

pub true_is : formula.True ≡ roll-Formula Formula-F.True
unfolding formula.roll-Formula denote.Hole.Carrier.roll
true_is = refl

pub false_is : formula.False ≡ roll-Formula Formula-F.False
unfolding formula.roll-Formula denote.Hole.Carrier.roll
false_is = refl

pub atom_is : (t : Term) → formula.Atom t ≡ roll-Formula (Formula-F.Atom t)
unfolding formula.roll-Formula denote.Hole.Carrier.roll
atom_is t = refl

pub not_is : (a : Formula) → formula.Not a ≡ roll-Formula (Formula-F.Not a)
unfolding formula.roll-Formula denote.Hole.Carrier.roll
not_is a = refl

pub two_is : (j : Junction) (a b : Formula) → formula.Two j a b ≡ roll-Formula (Formula-F.Two j a b)
unfolding formula.roll-Formula denote.Hole.Carrier.roll
two_is j a b = refl

pub quantified_is : (q : Quantifier) (a : Ty) (t : Term) (b : Formula) → formula.Quantified q a t b ≡ roll-Formula (Formula-F.Quantified q a t b)
unfolding formula.roll-Formula denote.Hole.Carrier.roll
quantified_is q a t b = refl
