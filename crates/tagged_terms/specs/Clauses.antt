-- Literals and clauses whose terms are tagged.
use Rattle.std.specs.Prelude.{◌≡◌, Bool, false, List, [], ◌∷◌, map}
use Rattle.hol_terms.specs.declared.ty.Ty.{Ty}
use Rattle.hol_terms.specs.declared.konst.Konst.TheVariants as konst
use Rattle.hol_terms.specs.declared.term.Term.{Term, roll-Term}
use Rattle.hol_terms.specs.declared.term.Term.TheOpen.{Term-F}
use Rattle.hol_terms.specs.Types.{is_ty, bool_ty}
use Rattle.fo_terms.specs.declared.atom.Atom.{Atom}
use Rattle.fo_terms.specs.declared.atom.Atom.TheVariants.{Holds, Eq}
use Rattle.fo_terms.specs.declared.literal.Literal.{Literal}
use Rattle.tagged_terms.specs.Readings.{Signs, Types, application, IsTagged}
use Rattle.tagged_terms.specs.Terms.{term_at, tag_of}

-- a term of type bool, or its negation
pub record TypedLiteral : Type 0 where
  pub positive : Bool
  pub atom : Term

-- `s = t`, the sides of this type
abbrev pub equation : Ty → Term → Term → Term
equation a s t = application (application (roll-Term (Term-F.Con (konst.Eq a))) s) t

-- ---- what literals stand for, whatever the types of the variables

abbrev pub formula_of : Signs → Atom → Term
formula_of signs (Holds t) = term_at signs t bool_ty
formula_of signs (Eq s t) = equation (tag_of signs s) (term_at signs s bool_ty) (term_at signs t bool_ty)

abbrev pub literal_of : Signs → Literal → TypedLiteral
literal_of signs l = record { positive = l.positive; atom = formula_of signs l.atom }

abbrev pub literals_of : Signs → List Literal → List TypedLiteral
literals_of signs ls = map (literal_of signs) ls

-- ---- what is well tagged

-- a tagged term of type bool, or two of one type other than bool
abbrev pub IsAtom : Signs → Types → Atom → Type 0
IsAtom signs types (Holds t) = IsTagged signs types t bool_ty (term_at signs t bool_ty)
IsAtom signs types (Eq s t) = IsTagged signs types s (tag_of signs s) (term_at signs s bool_ty) × IsTagged signs types t (tag_of signs s) (term_at signs t bool_ty)
    × (is_ty (tag_of signs s) bool_ty ≡ false)

-- a clause of these literals
abbrev pub IsClause : Signs → Types → List Literal → Type 0
IsClause signs types [] = Unit {0}
IsClause signs types (l ∷ ls) = IsAtom signs types l.atom × IsClause signs types ls
