-- First-order terms that stand for typed terms. A symbol is the tag of a type, application or a constant; a variable stands below the tag of its type.
use Rattle.std.specs.Prelude.{◌≡◌, ℕ, if◌then◌else◌, List, [], ◌∷◌, Option, Some, None, slice_get}
use Rattle.hol_terms.specs.declared.ty.Ty.{Ty}
use Rattle.hol_terms.specs.declared.term.Term.{Term, roll-Term}
use Rattle.hol_terms.specs.declared.term.Term.TheOpen.{Term-F}
use Rattle.hol_terms.specs.Types.{is_ty}
use Rattle.hol_terms.specs.Typing.{applied}
use Rattle.fo_terms.specs.declared.term.FoTerm.{FoTerm}
use Rattle.fo_terms.specs.declared.term.FoTerm.TheOpen.{FoTerm-F}
use Rattle.fo_terms.specs.declared.term.FoTerm.TheFolds.{fold-FoTerm}
use Rattle.tagged_terms.specs.declared.symbol.Symbol.{Symbol}
use Rattle.tagged_terms.specs.declared.symbol.Symbol.TheVariants.{Tag, Apply, Constant}

-- what the symbols' numbers stand for
abbrev pub Signs : Type 0
Signs = ℕ → Option Symbol

-- those of a table
abbrev pub signs_of : List Symbol → Signs
signs_of symbols f = slice_get symbols f

-- the types of the variables
abbrev pub Types : Type 0
Types = ℕ → Option Ty

-- what a first-order term is read as: nothing, where it isn't well tagged; a core, which wants a tag of its type; or a tagged term
pub data Reading : Type 0 where
  Unread : Reading
  Core : Ty → Term → Reading
  Tagged : Ty → Term → Reading

abbrev pub free : ℕ → Ty → Term
free x s = roll-Term (Term-F.Free x s)

abbrev pub application : Term → Term → Term
application f x = roll-Term (Term-F.App f x)

-- a core of this type, where there is one
abbrev pub core_of : Option Ty → Term → Reading
core_of None d = Unread
core_of (Some s) d = Core s d

-- a variable of a type is a core of it
abbrev pub variable : Option Ty → ℕ → Reading
variable None x = Unread
variable (Some s) x = Core s (free x s)

-- a tag on a core of its type
abbrev pub tagging : Ty → Reading → Reading
tagging s Unread = Unread
tagging s (Core a d) = if is_ty a s then Tagged s d else Unread
tagging s (Tagged a d) = Unread

-- two tagged terms that fit, the first a function, give a core
abbrev pub applying : Reading → Reading → Reading
applying (Tagged a f) (Tagged b x) = core_of (applied (Some a) (Some b)) (application f x)
applying (Tagged a f) (Core b x) = Unread
applying (Tagged a f) Unread = Unread
applying (Core a f) r = Unread
applying Unread r = Unread

abbrev pub read_tag : Ty → List Reading → Reading
read_tag s [] = Unread
read_tag s (r ∷ []) = tagging s r
read_tag s (r ∷ q ∷ more) = Unread

abbrev pub read_apply : List Reading → Reading
read_apply [] = Unread
read_apply (r ∷ []) = Unread
read_apply (r ∷ q ∷ []) = applying r q
read_apply (r ∷ q ∷ p ∷ more) = Unread

abbrev pub read_constant : Term → Ty → List Reading → Reading
read_constant d s [] = Core s d
read_constant d s (r ∷ more) = Unread

-- a symbol with arguments
abbrev pub read_symbol : Option Symbol → List Reading → Reading
read_symbol None rs = Unread
read_symbol (Some (Tag s)) rs = read_tag s rs
read_symbol (Some Apply) rs = read_apply rs
read_symbol (Some (Constant d s)) rs = read_constant d s rs

abbrev pub read_step : Signs → Types → FoTerm-F Reading → Reading
read_step signs types (FoTerm-F.Var x) = variable (types x) x
read_step signs types (FoTerm-F.Fun f rs) = read_symbol (signs f) rs

abbrev pub reading : Signs → Types → FoTerm → Reading
reading signs types = fold-FoTerm Reading (read_step signs types)

-- the term is a core of this type, and stands for `d`
abbrev pub IsCore : Signs → Types → FoTerm → Ty → Term → Type 0
IsCore signs types t s d = reading signs types t ≡ Core s d

-- the term is tagged with this type, and stands for `d`
abbrev pub IsTagged : Signs → Types → FoTerm → Ty → Term → Type 0
IsTagged signs types t s d = reading signs types t ≡ Tagged s d

abbrev pub typed_of : Reading → Option (Ty × Term)
typed_of Unread = None
typed_of (Core s d) = None
typed_of (Tagged s d) = Some (s, d)

-- the type and the typed term of a tagged term
abbrev pub dec : Signs → Types → FoTerm → Option (Ty × Term)
dec signs types t = typed_of (reading signs types t)
