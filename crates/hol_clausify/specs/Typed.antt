-- Clauses that may be encoded: their atoms are formulas over the signature and a table, without lambdas, and a variable's number tells its type.
use Rattle.std.specs.Prelude.{◌≡◌, ◌<◌, Bool, IsTrue, List, ◌++◌, Some}
use Rattle.hol_terms.specs.declared.ty.Ty.{Ty}
use Rattle.hol_terms.specs.declared.sig.Sig.{Sig}
use Rattle.hol_terms.specs.declared.term.Term.{Term}
use Rattle.hol_terms.specs.Types.{bool_ty}
use Rattle.hol_terms.specs.Typing.{type_of_term}
use Rattle.hol_terms.specs.Formulas.{IsSentence}
use Rattle.hol_terms.specs.declared.literal.TypedLiteral.{TypedLiteral}
use Rattle.lambda_lift.specs.declared.table.Aux.{Aux}
use Rattle.lambda_lift.specs.Standing.{Each, StandsAlone, over}
use Rattle.lambda_lift.specs.Lifting.{lifted}
use Rattle.formula_clauses.specs.Walks.{Walked}
use Rattle.formula_clauses.specs.Fits.{clausified}
use Rattle.fol_encode.specs.Laws.{lambda_free}
use Rattle.hol_clausify.specs.Variables.{each_free, has_number}

-- the atom has type bool over the signature and the table (so it has no loose index), no lambda, and variables of these types by their numbers
pub record IsTypedAtom (sig : Sig) (table : List Aux) (types : List Ty) (t : Term) : Type 0 where
  pub typed : type_of_term (over sig table) t ≡ Some bool_ty
  pub without_lambda : IsTrue (lambda_free t)
  pub numbered : IsTrue (each_free (has_number types) t)

-- one list tells the types of the clause's variables
pub record IsTypedClause (sig : Sig) (table : List Aux) (ls : List TypedLiteral) : Type 0 where
  pub types : List Ty
  pub atoms : Each (λ l. IsTypedAtom sig table types l.atom) ls

-- what a walk over the table `old` gives: a table with the old entries first, which stand alone, and clauses that are typed over it
pub record WalksTyped (sig : Sig) (old : List Aux) (w : Walked) : Type 0 where
  pub more : List Aux
  pub grown : w.after.table ≡ old ++ more
  pub alone : Each (StandsAlone sig) w.after.table
  pub typed : Each (IsTypedClause sig w.after.table) w.clauses

-- the clauses of a sentence over a table whose entries stand alone
abbrev pub ClausesAreTyped : Sig → List Aux → Term → Bool → Type 0
ClausesAreTyped sig old t goal = 0 < sig.types → Each (StandsAlone sig) old → IsSentence sig t → WalksTyped sig old (clausified goal (lifted sig old t))
