-- The type of a term.
use Rattle.std.specs.Prelude.{◌≡◌, ℕ, if◌then◌else◌, List, [], ◌∷◌, slice_get, Option, Some, None, Result, Ok, Err}
use Rattle.hol_terms.specs.declared.ty.Ty.{Ty, out-Ty}
use Rattle.hol_terms.specs.declared.ty.Ty.TheOpen.{Ty-F}
use Rattle.hol_terms.specs.declared.konst.Konst.{Konst}
use Rattle.hol_terms.specs.declared.konst.Konst.TheVariants as konst
use Rattle.hol_terms.specs.declared.term.Term.{Term}
use Rattle.hol_terms.specs.declared.term.Term.TheOpen.{Term-F}
use Rattle.hol_terms.specs.declared.term.Term.TheFolds.{fold-Term}
use Rattle.hol_terms.specs.declared.sig.Sig.{Sig}
use Rattle.hol_terms.specs.declared.fault.TypeFault.{TypeFault}
use Rattle.hol_terms.specs.declared.fault.TypeFault.TheVariants.{IllTyped, NoMemory}
use Rattle.hol_terms.specs.Types.{is_ty, ty_fits, bool_ty, function_ty}

-- the type `t`, where the base types in `a` are the signature's
abbrev pub checked : ℕ → Ty → Ty → Option Ty
checked types a t = if ty_fits types a then Some t else None

-- the type at a place of a table, where there is one and its base types are the signature's
abbrev pub fitting : ℕ → Option Ty → Option Ty
fitting types None = None
fitting types (Some t) = checked types t t

-- the type of a constant
abbrev pub konst_type : Sig → Konst → Option Ty
konst_type sig (konst.Named k) = fitting sig.types (slice_get sig.consts k)
konst_type sig (konst.Aux k) = fitting sig.types (slice_get sig.aux k)
konst_type sig konst.True = Some bool_ty
konst_type sig konst.False = Some bool_ty
konst_type sig konst.Not = Some (function_ty bool_ty bool_ty)
konst_type sig konst.And = Some (function_ty bool_ty (function_ty bool_ty bool_ty))
konst_type sig konst.Or = Some (function_ty bool_ty (function_ty bool_ty bool_ty))
konst_type sig konst.Imp = Some (function_ty bool_ty (function_ty bool_ty bool_ty))
konst_type sig (konst.Eq a) = checked sig.types a (function_ty a (function_ty a bool_ty))
konst_type sig (konst.All a) = checked sig.types a (function_ty (function_ty a bool_ty) bool_ty)
konst_type sig (konst.Ex a) = checked sig.types a (function_ty (function_ty a bool_ty) bool_ty)
konst_type sig (konst.Eps a) = checked sig.types a (function_ty (function_ty a bool_ty) a)

-- the type of an application, from those of the function and of the argument
abbrev pub applied_at : Ty-F Ty → Ty → Option Ty
applied_at (Ty-F.Base a) x = None
applied_at (Ty-F.Arrow a b) x = if is_ty a x then Some b else None

abbrev pub applied : Option Ty → Option Ty → Option Ty
applied None x = None
applied (Some f) None = None
applied (Some f) (Some x) = applied_at (out-Ty f) x

-- the type of a lambda, from that of its body
abbrev pub under : ℕ → Ty → Option Ty → Option Ty
under types a None = None
under types a (Some b) = checked types a (function_ty a b)

-- the type of a term under binders, whose types are listed with the innermost first
abbrev pub type_step : Sig → Term-F (List Ty → Option Ty) → List Ty → Option Ty
type_step sig (Term-F.Bound i) binders = slice_get binders i
type_step sig (Term-F.Free n a) binders = checked sig.types a a
type_step sig (Term-F.Con k) binders = konst_type sig k
type_step sig (Term-F.App f x) binders = applied (f binders) (x binders)
type_step sig (Term-F.Lam a b) binders = under sig.types a (b (a ∷ binders))

abbrev pub type_in : Sig → Term → List Ty → Option Ty
type_in sig = fold-Term (List Ty → Option Ty) (type_step sig)

-- the type of a term that stands alone
abbrev pub type_of_term : Sig → Term → Option Ty
type_of_term sig t = type_in sig t []

-- `Ok` exactly with the type, `IllTyped` exactly where there is none
abbrev pub Answers : Option Ty → Result Ty TypeFault → Type 0
Answers typed (Ok a) = typed ≡ Some a
Answers typed (Err IllTyped) = typed ≡ None
Answers typed (Err NoMemory) = Unit {0}
