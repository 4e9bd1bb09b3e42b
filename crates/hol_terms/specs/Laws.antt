-- Laws of the definitions.
use Rattle.std.specs.Prelude.{◌≡◌, ℕ, List, IsTrue, [], ◌∷◌, Some}
use Rattle.hol_terms.specs.declared.ty.Ty.{Ty}
use Rattle.hol_terms.specs.declared.sig.Sig.{Sig}
use Rattle.hol_terms.specs.declared.term.Term.{Term}
use Rattle.hol_terms.specs.Types.{ty_fits}
use Rattle.hol_terms.specs.Substitution.{is_closed, instantiated, abstracted, put_free, one_put}
use Rattle.hol_terms.specs.Typing.{type_in, type_of_term}

-- a term that has a type standing alone has no loose index
abbrev pub TypedIsClosed : Sig → Term → Type 0
TypedIsClosed sig t = (a : Ty) → type_of_term sig t ≡ Some a → IsTrue (is_closed t)

-- a closed term has one type under all binders
abbrev pub ClosedHasOneType : Sig → Term → Type 0
ClosedHasOneType sig t = (binders : List Ty) → IsTrue (is_closed t) → type_in sig t binders ≡ type_of_term sig t

-- where `u` has the binder's type, `t[u]` has the type of `t`
abbrev pub SubstitutionKeepsTypes : Sig → Ty → Term → Term → Type 0
SubstitutionKeepsTypes sig s t u = type_of_term sig u ≡ Some s → type_of_term sig (instantiated t u) ≡ type_in sig t (s ∷ [])

-- under a binder of the variable's type, the body of the lambda over the variable has the type of the term
abbrev pub AbstractionKeepsTypes : Sig → ℕ → Ty → Term → Type 0
AbstractionKeepsTypes sig n a t = IsTrue (ty_fits sig.types a) → type_in sig (abstracted n a t) (a ∷ []) ≡ type_of_term sig t

-- a term of the variable's type put for the variable leaves the type
abbrev pub ReplacementKeepsTypes : Sig → ℕ → Ty → Term → Term → Type 0
ReplacementKeepsTypes sig n a u t = IsTrue (ty_fits sig.types a) → type_of_term sig u ≡ Some a → type_of_term sig (put_free (one_put n a u) t) ≡ type_of_term sig t
