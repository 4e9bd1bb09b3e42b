-- What clauses over a signature's signs are made of.
use Rattle.std.specs.Prelude.{◌<◌, List, [], ◌∷◌}
use Rattle.hol_terms.specs.declared.sig.Sig.{Sig}
use Rattle.hol_terms.specs.Formulas.{IsFormula}
use Rattle.fo_terms.specs.declared.literal.Literal.{Literal}
use Rattle.tagged_terms.specs.Readings.{Signs, Types}
use Rattle.tagged_terms.specs.Clauses.{TypedLiteral, literals_of, IsClause}
use Rattle.tagged_terms.specs.Fits.{AreTyped, AreOf}
use Rattle.tagged_lines.specs.Variables.{own}

-- each literal's atom is a formula
abbrev pub AreFormulas : Sig → List TypedLiteral → Type 0
AreFormulas sig [] = Unit {0}
AreFormulas sig (l ∷ ls) = IsFormula sig l.atom × AreFormulas sig ls

-- what a clause stands for are formulas
abbrev pub ClausesAreFormulas : List Literal → Type 0
ClausesAreFormulas ls = (sig : Sig) (signs : Signs) (types : Types) → 0 < sig.types → AreTyped sig signs → AreOf sig types → IsClause signs types ls → AreFormulas sig (literals_of signs ls)

-- the types of a clause's own variables serve it, and are the signature's, since they stand in tags
abbrev pub OwnTypesServe : List Literal → Type 0
OwnTypesServe ls = (signs : Signs) (types : Types) → IsClause signs types ls → IsClause signs (own ls types) ls × ((sig : Sig) → AreTyped sig signs → AreOf sig (own ls types))
