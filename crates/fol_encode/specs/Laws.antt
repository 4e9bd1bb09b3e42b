-- What is encoded is read again.
use Rattle.std.specs.Prelude.{◌≡◌, ℕ, Bool, true, false, ◌&&◌, IsTrue, List, [], ◌∷◌, slice_get, Some}
use Rattle.hol_terms.specs.declared.ty.Ty.{Ty}
use Rattle.hol_terms.specs.declared.sig.Sig.{Sig}
use Rattle.hol_terms.specs.declared.term.Term.{Term}
use Rattle.hol_terms.specs.declared.term.Term.TheOpen.{Term-F}
use Rattle.hol_terms.specs.declared.term.Term.TheFolds.{fold-Term}
use Rattle.hol_terms.specs.Typing.{type_of_term}
use Rattle.hol_terms.specs.Substitution.{occurs}
use Rattle.lambda_lift.specs.declared.table.Aux.{Aux}
use Rattle.lambda_lift.specs.Tables.{expand}
use Rattle.lambda_lift.specs.Standing.{over}
use Rattle.tagged_terms.specs.Readings.{Types, IsTagged}
use Rattle.tagged_terms.specs.Readings.{signs_of as meanings}
use Rattle.fol_encode.specs.declared.sign.Sign.{Sign}
use Rattle.fol_encode.specs.Signs.{number_of, symbols_of}
use Rattle.fol_encode.specs.Occurring.{occurring}
use Rattle.fol_encode.specs.Encoding.{encoded}

-- no lambda stands in the term
abbrev pub lambda_free_step : Term-F Bool → Bool
lambda_free_step (Term-F.Bound i) = true
lambda_free_step (Term-F.Free n a) = true
lambda_free_step (Term-F.Con k) = true
lambda_free_step (Term-F.App f x) = f && x
lambda_free_step (Term-F.Lam a b) = false

abbrev pub lambda_free : Term → Bool
lambda_free = fold-Term Bool lambda_free_step

-- each of these signs has its place among the signs
abbrev pub Covers : List Sign → List Sign → Type 0
Covers signs [] = Unit {0}
Covers signs (s ∷ ss) = (slice_get signs (number_of signs s) ≡ Some s) × Covers signs ss

-- what a sentence of this law is said of: a term that has a type over signature and table, without loose indexes and lambdas, signs that
-- cover it, and types of variables that are those of its free ones
pub record Fits (sig : Sig) (table : List Aux) (signs : List Sign) (types : Types) (t : Term) : Type 0 where
  pub without_lambda : IsTrue (lambda_free t)
  pub covered : Covers signs (occurring sig table t)
  pub variables : (n : ℕ) (a : Ty) → IsTrue (occurs n a t) → types n ≡ Some a

-- the encoded term is tagged with the term's type, and stands for the term expanded
abbrev pub EncodedIsRead : Sig → List Aux → Term → Type 0
EncodedIsRead sig table t =
    (signs : List Sign) (types : Types) (a : Ty) → Fits sig table signs types t → type_of_term (over sig table) t ≡ Some a →
    IsTagged (meanings (symbols_of table signs)) types (encoded signs t []) a (expand table t)
