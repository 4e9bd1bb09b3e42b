-- The typed variables of a tagged clause, each once.
use Rattle.std.specs.Prelude.{◌≡◌, ℕ, Bool, ◌&&◌, ◌==◌, List, [], ◌∷◌, Option, Some, None}
use Rattle.std.specs.Borrow.{Bor}
use Rattle.hol_terms.specs.declared.ty.Ty.{Ty}
use Rattle.hol_terms.specs.Types.{is_ty}
use Rattle.fo_terms.specs.declared.term.FoTerm.{FoTerm}
use Rattle.fo_terms.specs.declared.literal.Literal.{Literal}
use Rattle.fo_terms.specs.Substitution.{var}
use Rattle.fo_terms.specs.inner.Gathered.{all_added}
use Rattle.tagged_terms.specs.declared.symbol.Symbol.{Symbol}
use Rattle.tagged_terms.specs.declared.symbol.Symbol.TheVariants.{Tag}
use Rattle.tagged_terms.specs.Readings.{Signs}
use Rattle.tagged_lines.specs.declared.variable.TypedVariable.{TypedVariable}
use Rattle.tagged_lines.specs.Tags.{typed_variables}

-- the same variable of the same type
abbrev pub is_variable : TypedVariable → TypedVariable → Bool
is_variable v w = v.var == w.var && is_ty v.ty w.ty

-- the typed variables of a clause without repeats
abbrev pub distinct_variables : Signs → List Literal → List TypedVariable
distinct_variables signs ls = all_added is_variable [] (typed_variables signs ls)

-- the symbol is the tag of this type, or no tag
abbrev pub TagAs : Option Symbol → Option (Bor Ty) → Type 0
TagAs o (Some s) = o ≡ Some (Tag s.now)
TagAs o None = (s : Ty) → o ≡ Some (Tag s) → ⊥

-- the terms are this variable alone, or no variable alone
abbrev pub VariableAs : List FoTerm → Option ℕ → Type 0
VariableAs ts (Some x) = ts ≡ var x ∷ []
VariableAs ts None = (x : ℕ) → ts ≡ var x ∷ [] → ⊥
