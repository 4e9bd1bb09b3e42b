-- Substitutions that fit the types of the variables, and equations that unification solves with such ones.
use Rattle.std.specs.Prelude.{◌≡◌, ℕ, IsTrue, List, [], ◌∷◌, Some}
use Rattle.hol_terms.specs.declared.ty.Ty.{Ty}
use Rattle.hol_terms.specs.declared.sig.Sig.{Sig}
use Rattle.hol_terms.specs.declared.term.Term.{Term}
use Rattle.hol_terms.specs.Types.{ty_fits}
use Rattle.hol_terms.specs.Typing.{type_of_term}
use Rattle.hol_terms.specs.Formulas.{aux_free, var_free}
use Rattle.fo_terms.specs.declared.term.FoTerm.{FoTerm}
use Rattle.tagged_terms.specs.declared.symbol.Symbol.TheVariants.{Tag, Constant}
use Rattle.tagged_terms.specs.Terms.{term_at}
use Rattle.tagged_terms.specs.Readings.{Signs, Types, IsCore, IsTagged}

-- no constant stands for a term with free variables
abbrev pub AreClosed : Signs → Type 0
AreClosed signs = (f : ℕ) (d : Term) (s : Ty) → signs f ≡ Some (Constant d s) → IsTrue (var_free d)

-- the tags' types are the signature's, and each constant's term has its type and no auxiliary constant
pub record AreTyped (sig : Sig) (signs : Signs) : Type 0 where
  pub tags : (f : ℕ) (s : Ty) → signs f ≡ Some (Tag s) → IsTrue (ty_fits sig.types s)
  pub constants : (f : ℕ) (d : Term) (s : Ty) → signs f ≡ Some (Constant d s) → type_of_term sig d ≡ Some s
  pub without_aux : (f : ℕ) (d : Term) (s : Ty) → signs f ≡ Some (Constant d s) → IsTrue (aux_free d)

-- the variables' types are the signature's
abbrev pub AreOf : Sig → Types → Type 0
AreOf sig types = (x : ℕ) (s : Ty) → types x ≡ Some s → IsTrue (ty_fits sig.types s)

-- ---- substitutions

-- what a substitution of cores puts for typed variables
abbrev pub typed_put : Signs → (ℕ → FoTerm) → ℕ → Ty → Term
typed_put signs u x s = term_at signs (u x) s

-- each variable that has a type goes to a core of this type over the new types
abbrev pub Fits : Signs → Types → Types → (ℕ → FoTerm) → Type 0
Fits signs old new u = (x : ℕ) (s : Ty) → old x ≡ Some s → IsCore signs new (u x) s (typed_put signs u x s)

-- ---- equations

-- two tagged terms, of whatever types, or two cores of one type
pub data Paired (signs : Signs) (types : Types) : FoTerm → FoTerm → Type 0 where
  both_tagged : {a b : FoTerm} (s t : Ty) (d e : Term) → IsTagged signs types a s d → IsTagged signs types b t e → Paired signs types a b
  both_cores : {a b : FoTerm} (s : Ty) (d e : Term) → IsCore signs types a s d → IsCore signs types b s e → Paired signs types a b

abbrev pub AllPaired : Signs → Types → List (FoTerm × FoTerm) → Type 0
AllPaired signs types [] = Unit {0}
AllPaired signs types (e ∷ es) = Paired signs types e.0 e.1 × AllPaired signs types es
