-- Formulas whose atoms have no lambda.
use Rattle.std.specs.Prelude.{Bool, true, ◌&&◌}
use Rattle.hol_formulas.specs.declared.formula.Formula.{Formula}
use Rattle.hol_formulas.specs.declared.formula.Formula.TheOpen.{Formula-F}
use Rattle.hol_formulas.specs.declared.formula.Formula.TheFolds.{fold-Formula}
use Rattle.fol_encode.specs.Laws.{lambda_free}

abbrev pub plain_step : Formula-F Bool → Bool
plain_step Formula-F.True = true
plain_step Formula-F.False = true
plain_step (Formula-F.Atom t) = lambda_free t
plain_step (Formula-F.Not a) = a
plain_step (Formula-F.Two j a b) = a && b
plain_step (Formula-F.Quantified q a t b) = b

abbrev pub atoms_plain : Formula → Bool
atoms_plain = fold-Formula Bool plain_step
