-- How the constants and the terms of lifted formulas are written.
use Rattle.std.specs.Prelude.{ℕ, ◌-◌, List, [], ◌∷◌, codes, decimal, length, slice_get}
use Rattle.std.specs.Option.{option_map_or}
use Rattle.hol_terms.specs.declared.ty.Ty.{Ty, out-Ty}
use Rattle.hol_terms.specs.declared.konst.Konst.{Konst}
use Rattle.hol_terms.specs.declared.konst.Konst.TheVariants as konst
use Rattle.hol_terms.specs.declared.term.Term.{Term}
use Rattle.hol_terms.specs.declared.term.Term.TheOpen.{Term-F}
use Rattle.hol_terms.specs.declared.term.Term.TheFolds.{fold-Term}
use Rattle.hol_terms.specs.Types.{bool_ty, function_ty}
use Rattle.lambda_lift.specs.declared.table.Aux.{Aux}
use Rattle.lambda_lift.specs.Closing.{ty_at}
use Rattle.lambda_lift.specs.Equations.{result_at}
use Rattle.lambda_lift.specs.Lifting.{entry_at}
use Rattle.theory_terms.specs.declared.decl.Decl.{Decl}
use Rattle.tptp_print.specs.declared.page.Page.{Page}
use Rattle.tptp_print.specs.Pages.{word, type_number, pieces}

-- ---- constants, by the theory's declarations and the table

abbrev pub two_bools : Ty
two_bools = function_ty bool_ty (function_ty bool_ty bool_ty)

-- the type of a constant; bool where there is no such constant
abbrev pub konst_ty : List Decl → List Aux → Konst → Ty
konst_ty consts table (konst.Named k) = option_map_or (λ d. d.ty) (slice_get consts k) bool_ty
konst_ty consts table (konst.Aux k) = (entry_at table k).ty
konst_ty consts table konst.True = bool_ty
konst_ty consts table konst.False = bool_ty
konst_ty consts table konst.Not = function_ty bool_ty bool_ty
konst_ty consts table konst.And = two_bools
konst_ty consts table konst.Or = two_bools
konst_ty consts table konst.Imp = two_bools
konst_ty consts table (konst.Eq a) = function_ty a (function_ty a bool_ty)
konst_ty consts table (konst.All a) = function_ty (function_ty a bool_ty) bool_ty
konst_ty consts table (konst.Ex a) = function_ty (function_ty a bool_ty) bool_ty
konst_ty consts table (konst.Eps a) = function_ty (function_ty a bool_ty) a

abbrev pub word_of_type : List ℕ → Ty → Page → Page
word_of_type w a = pieces (word w ∷ type_number a ∷ [])

abbrev pub konst_text : List Decl → Konst → Page → Page
konst_text consts (konst.Named k) = pieces (word (codes "c_") ∷ word (option_map_or (λ d. d.name) (slice_get consts k) []) ∷ [])
konst_text consts (konst.Aux k) = pieces (word (codes "l_") ∷ word (decimal k) ∷ [])
konst_text consts konst.True = word (codes "k_true")
konst_text consts konst.False = word (codes "k_false")
konst_text consts konst.Not = word (codes "k_not")
konst_text consts konst.And = word (codes "k_and")
konst_text consts konst.Or = word (codes "k_or")
konst_text consts konst.Imp = word (codes "k_imp")
konst_text consts (konst.Eq a) = word_of_type (codes "k_eq_") a
konst_text consts (konst.All a) = word_of_type (codes "k_all_") a
konst_text consts (konst.Ex a) = word_of_type (codes "k_ex_") a
konst_text consts (konst.Eps a) = word_of_type (codes "k_eps_") a

-- ---- terms

-- the variable of the quantifier that has `n` quantifiers around it
abbrev pub variable : ℕ → Page → Page
variable n = pieces (word (codes "X") ∷ word (decimal n) ∷ [])

-- a term that is to be tagged: its type, and how the core below the tag is written
pub record Part : Type 0 where
  pub ty : Ty
  pub core : Page → Page

abbrev pub tagged : Part → Page → Page
tagged p = pieces (word (codes "t") ∷ type_number p.ty ∷ word (codes "(") ∷ p.core ∷ word (codes ")") ∷ [])

abbrev pub application : Part → Part → Part
application f x =
    record {
      ty = result_at f.ty (out-Ty f.ty);
      core = pieces (word (codes "app(") ∷ tagged f ∷ word (codes ",") ∷ tagged x ∷ word (codes ")") ∷ []);
    }

-- a term under quantifiers over variables of these types, the innermost first. No lambda stands in an atom of a lifted formula: nothing is
-- written for it
abbrev pub part_step : List Decl → List Aux → Term-F (List Ty → Part) → List Ty → Part
part_step consts table (Term-F.Bound i) c = record { ty = ty_at c i; core = variable (length c - 1 - i) }
part_step consts table (Term-F.Free n a) c = record { ty = a; core = variable n }
part_step consts table (Term-F.Con k) c = record { ty = konst_ty consts table k; core = konst_text consts k }
part_step consts table (Term-F.App f x) c = application (f c) (x c)
part_step consts table (Term-F.Lam a b) c = record { ty = function_ty a (b (a ∷ c)).ty; core = λ page. page }

abbrev pub part : List Decl → List Aux → Term → List Ty → Part
part consts table = fold-Term (List Ty → Part) (part_step consts table)
