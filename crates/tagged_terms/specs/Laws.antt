-- Laws of readings.
use Rattle.std.specs.Prelude.{◌≡◌, ℕ, IsTrue, List, Some}
use Rattle.hol_terms.specs.declared.ty.Ty.{Ty}
use Rattle.hol_terms.specs.declared.sig.Sig.{Sig}
use Rattle.hol_terms.specs.declared.term.Term.{Term}
use Rattle.hol_terms.specs.Substitution.{put_free}
use Rattle.hol_terms.specs.Typing.{type_of_term}
use Rattle.hol_terms.specs.Formulas.{aux_free}
use Rattle.fo_terms.specs.declared.term.FoTerm.{FoTerm}
use Rattle.fo_terms.specs.Substitution.{put}
use Rattle.fo_unify.specs.declared.subst.Bind.{Bind}
use Rattle.fo_unify.specs.Lookup.{term_of}
use Rattle.fo_unify.specs.Unified.{Unified}
use Rattle.tagged_terms.specs.declared.symbol.Instance.{Instance}
use Rattle.tagged_terms.specs.Terms.{term_at, tag_of}
use Rattle.tagged_terms.specs.Readings.{Signs, Types, IsCore, IsTagged}
use Rattle.tagged_terms.specs.Instances.{in_turn, at_once, Settled}
use Rattle.tagged_terms.specs.Fits.{AreClosed, AreTyped, AreOf, typed_put, Fits, AllPaired}

-- what a term is read as is what it stands for whatever the types of the variables
abbrev pub ReadingsAreTerms : FoTerm → Type 0
ReadingsAreTerms t = (signs : Signs) (types : Types) (s : Ty) (d : Term)
    → (IsCore signs types t s d → term_at signs t s ≡ d) × (IsTagged signs types t s d → (tag_of signs t ≡ s) × ((a : Ty) → term_at signs t a ≡ d))

-- under a substitution that fits, a term is read as before, with its variables replaced
abbrev pub SubstitutionKeepsReadings : FoTerm → Type 0
SubstitutionKeepsReadings t = (signs : Signs) (old new : Types) (u : ℕ → FoTerm) → AreClosed signs → Fits signs old new u → (s : Ty) (d : Term)
    → (IsCore signs old t s d → IsCore signs new (put u t) s (put_free (typed_put signs u) d))
    × (IsTagged signs old t s d → IsTagged signs new (put u t) s (put_free (typed_put signs u) d))

-- what a term is read as has the type and no auxiliary constant
abbrev pub ReadingsHaveTypes : FoTerm → Type 0
ReadingsHaveTypes t = (sig : Sig) (signs : Signs) (types : Types) → AreTyped sig signs → AreOf sig types → (s : Ty) (d : Term)
    → (IsCore signs types t s d → (type_of_term sig d ≡ Some s) × IsTrue (aux_free d))
    × (IsTagged signs types t s d → (type_of_term sig d ≡ Some s) × IsTrue (aux_free d))

-- two replacements are one
abbrev pub ReplacementsJoin : Term → Type 0
ReplacementsJoin d = (v w : ℕ → Ty → Term) → put_free w (put_free v d) ≡ put_free (λ x s. put_free w (v x s)) d

-- instances in turn are instances at once, where later ones leave what earlier ones put in
abbrev pub InTurnIsAtOnce : Term → Type 0
InTurnIsAtOnce d = (ps : List Instance) → Settled ps → in_turn ps d ≡ put_free (at_once ps) d

-- bindings that the rules of unification make of equations between tagged terms, or cores of one type, fit
abbrev pub UnifiersFit : List Bind → Type 0
UnifiersFit binds = (signs : Signs) (types : Types) (es : List (FoTerm × FoTerm)) → AreClosed signs → AllPaired signs types es → Unified es binds → Fits signs types types (term_of binds)
