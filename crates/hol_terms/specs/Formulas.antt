-- Formulas and sentences over a signature.
use Rattle.std.specs.Prelude.{Bool, true, false, ◌&&◌, Option, Some, None, IsTrue}
use Rattle.hol_terms.specs.declared.ty.Ty.{Ty}
use Rattle.hol_terms.specs.declared.konst.Konst.{Konst}
use Rattle.hol_terms.specs.declared.konst.Konst.TheVariants as konst
use Rattle.hol_terms.specs.declared.sig.Sig.{Sig}
use Rattle.hol_terms.specs.declared.term.Term.{Term}
use Rattle.hol_terms.specs.declared.term.Term.TheOpen.{Term-F}
use Rattle.hol_terms.specs.declared.term.Term.TheFolds.{fold-Term}
use Rattle.hol_terms.specs.Types.{is_ty, bool_ty}
use Rattle.hol_terms.specs.Typing.{type_of_term}

-- there is a type, and it is `a`
abbrev pub has_ty : Option Ty → Ty → Bool
has_ty None a = false
has_ty (Some b) a = is_ty b a

-- the term, standing alone, has the type `a`
abbrev pub typed_as : Sig → Term → Ty → Bool
typed_as sig t a = has_ty (type_of_term sig t) a

-- no auxiliary constant occurs
abbrev pub no_aux : Konst → Bool
no_aux (konst.Aux k) = false
no_aux _ = true

abbrev pub aux_free_step : Term-F Bool → Bool
aux_free_step (Term-F.Bound i) = true
aux_free_step (Term-F.Free n a) = true
aux_free_step (Term-F.Con k) = no_aux k
aux_free_step (Term-F.App f x) = f && x
aux_free_step (Term-F.Lam a b) = b

abbrev pub aux_free : Term → Bool
aux_free = fold-Term Bool aux_free_step

-- no free variable occurs
abbrev pub var_free_step : Term-F Bool → Bool
var_free_step (Term-F.Bound i) = true
var_free_step (Term-F.Free n a) = false
var_free_step (Term-F.Con k) = true
var_free_step (Term-F.App f x) = f && x
var_free_step (Term-F.Lam a b) = b

abbrev pub var_free : Term → Bool
var_free = fold-Term Bool var_free_step

-- what theorems are made of: the type is bool (so there is no loose index), and there is no auxiliary constant
unfoldable pub is_formula : Sig → Term → Bool
is_formula sig t = typed_as sig t bool_ty && aux_free t

abbrev pub IsFormula : Sig → Term → Type 0
IsFormula sig t = IsTrue (is_formula sig t)

-- what facts and goals are: formulas without free variables
unfoldable pub is_sentence : Sig → Term → Bool
is_sentence sig t = is_formula sig t && var_free t

abbrev pub IsSentence : Sig → Term → Type 0
IsSentence sig t = IsTrue (is_sentence sig t)
