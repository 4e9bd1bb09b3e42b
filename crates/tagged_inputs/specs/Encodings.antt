-- Clauses that are typed over a table, encoded: they are tagged, and stand for the clauses with their auxiliary constants expanded.
use Rattle.std.specs.Prelude.{◌≡◌, ◌<◌, List, map}
use Rattle.hol_terms.specs.declared.sig.Sig.{Sig}
use Rattle.hol_terms.specs.declared.literal.TypedLiteral.{TypedLiteral}
use Rattle.lambda_lift.specs.declared.table.Aux.{Aux}
use Rattle.lambda_lift.specs.Standing.{Each, StandsAlone}
use Rattle.formula_clauses.specs.Walks.{Clauses}
use Rattle.fol_encode.specs.declared.sign.Sign.{Sign}
use Rattle.fol_encode.specs.Signs.{symbols_of}
use Rattle.fol_encode.specs.Occurring.{signs_for}
use Rattle.tagged_terms.specs.Readings.{Signs, signs_of}
use Rattle.clause_instances.specs.Theorems.{clause_of}
use Rattle.hol_clausify.specs.Typed.{IsTypedClause}
use Rattle.hol_clausify.specs.Sources.{meaning}
use Rattle.hol_lift.specs.Refutations.{IsTaggedClause, AreSignsOver}
use Rattle.goal_search.specs.Encoded.{atoms, encoded_clause}

-- the encoded clause is tagged, and stands for the clause
pub record IsEncoding (table : List Aux) (signs : List Sign) (c : List TypedLiteral) : Type 0 where
  pub tagged : IsTaggedClause (signs_of (symbols_of table signs)) (encoded_clause signs c).literals
  pub stands : clause_of (signs_of (symbols_of table signs)) (encoded_clause signs c).literals ≡ map (meaning table) c

-- so it is with each clause, over the signs that occur in them, and these signs are the signature's
pub record AreEncodings (sig : Sig) (table : List Aux) (cs : Clauses) : Type 0 where
  pub signs : AreSignsOver sig (signs_of (symbols_of table (signs_for sig table (atoms cs))))
  pub clauses : Each (IsEncoding table (signs_for sig table (atoms cs))) cs

abbrev pub ClausesAreEncoded : Sig → List Aux → Clauses → Type 0
ClausesAreEncoded sig table cs = 0 < sig.types → Each (StandsAlone sig) table → Each (IsTypedClause sig table) cs → AreEncodings sig table cs
