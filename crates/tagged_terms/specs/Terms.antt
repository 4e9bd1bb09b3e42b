-- What well-tagged terms stand for, whatever the types of the variables: a variable's type stands in the tag above it.
use Rattle.std.specs.Prelude.{List, [], ◌∷◌, map, Option, Some, None}
use Rattle.hol_terms.specs.declared.ty.Ty.{Ty}
use Rattle.hol_terms.specs.declared.konst.Konst.TheVariants as konst
use Rattle.hol_terms.specs.declared.term.Term.{Term, roll-Term}
use Rattle.hol_terms.specs.declared.term.Term.TheOpen.{Term-F}
use Rattle.hol_terms.specs.Types.{bool_ty}
use Rattle.fo_terms.specs.declared.term.FoTerm.{FoTerm, out-FoTerm}
use Rattle.fo_terms.specs.declared.term.FoTerm.TheOpen.{FoTerm-F}
use Rattle.fo_terms.specs.declared.term.FoTerm.TheFolds.{fold-FoTerm}
use Rattle.tagged_terms.specs.declared.symbol.Symbol.{Symbol}
use Rattle.tagged_terms.specs.declared.symbol.Symbol.TheVariants.{Tag, Apply, Constant}
use Rattle.tagged_terms.specs.Readings.{Signs, free, application}

-- the type that a core below the symbol has: a tag says it
abbrev pub type_below : Option Symbol → Ty → Ty
type_below (Some (Tag a)) s = a
type_below (Some Apply) s = s
type_below (Some (Constant d a)) s = s
type_below None s = s

-- what stands for a term that isn't well tagged
abbrev pub stranger : Term
stranger = roll-Term (Term-F.Con konst.False)

abbrev pub single : List Term → Term
single [] = stranger
single (d ∷ []) = d
single (d ∷ e ∷ more) = stranger

abbrev pub applied_two : List Term → Term
applied_two [] = stranger
applied_two (f ∷ []) = stranger
applied_two (f ∷ x ∷ []) = application f x
applied_two (f ∷ x ∷ y ∷ more) = stranger

-- a symbol with the terms that its arguments stand for
abbrev pub assembled : Option Symbol → List Term → Term
assembled None ds = stranger
assembled (Some (Tag a)) ds = single ds
assembled (Some Apply) ds = applied_two ds
assembled (Some (Constant d a)) ds = d

abbrev pub term_step : Signs → FoTerm-F (Ty → Term) → Ty → Term
term_step signs (FoTerm-F.Var x) s = free x s
term_step signs (FoTerm-F.Fun f gs) s = assembled (signs f) (map (λ g. g (type_below (signs f) s)) gs)

-- the term that a core of the type stands for; of a tagged term, whatever type is given
abbrev pub term_at : Signs → FoTerm → Ty → Term
term_at signs = fold-FoTerm (Ty → Term) (term_step signs)

abbrev pub head_sign : Signs → FoTerm-F FoTerm → Option Symbol
head_sign signs (FoTerm-F.Var x) = None
head_sign signs (FoTerm-F.Fun f args) = signs f

-- the type that the tag at the head says
abbrev pub tag_of : Signs → FoTerm → Ty
tag_of signs t = type_below (head_sign signs (out-FoTerm t)) bool_ty
