-- The signs that are made for terms cover each of them.
use Rattle.std.specs.Prelude.{List}
use Rattle.hol_terms.specs.declared.sig.Sig.{Sig}
use Rattle.hol_terms.specs.declared.term.Term.{Term}
use Rattle.lambda_lift.specs.declared.table.Aux.{Aux}
use Rattle.lambda_lift.specs.Standing.{Each}
use Rattle.fol_encode.specs.Occurring.{occurring, signs_for}
use Rattle.fol_encode.specs.Laws.{Covers}

abbrev pub SignsCover : Sig → List Aux → List Term → Type 0
SignsCover sig table terms = Each (λ t. Covers (signs_for sig table terms) (occurring sig table t)) terms
