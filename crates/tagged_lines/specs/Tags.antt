-- The variables of tagged clauses, each with the type of the tag right above it, in reading order and as often as they stand there; and the instances that a substitution gives them.
use Rattle.std.specs.Prelude.{◌≡◌, ℕ, List, [], ◌∷◌, map, Option, Some, None}
use Rattle.std.specs.List.{flat_map}
use Rattle.hol_terms.specs.declared.ty.Ty.{Ty}
use Rattle.fo_terms.specs.declared.term.FoTerm.{FoTerm}
use Rattle.fo_terms.specs.declared.term.FoTerm.TheOpen.{FoTerm-F}
use Rattle.fo_terms.specs.declared.term.FoTerm.TheFolds.{fold-FoTerm}
use Rattle.fo_terms.specs.declared.literal.Literal.{Literal}
use Rattle.fo_terms.specs.Normal.{atom_terms}
use Rattle.tagged_terms.specs.declared.symbol.Symbol.{Symbol}
use Rattle.tagged_terms.specs.declared.symbol.Symbol.TheVariants.{Tag, Apply, Constant}
use Rattle.tagged_terms.specs.declared.symbol.Instance.{Instance}
use Rattle.tagged_terms.specs.Readings.{Signs, Types}
use Rattle.tagged_terms.specs.Clauses.{IsClause}
use Rattle.tagged_terms.specs.Fits.{typed_put}
use Rattle.tagged_lines.specs.declared.variable.TypedVariable.{TypedVariable}
use Rattle.tagged_lines.specs.TypedLiterals.{IsIn}
use Rattle.tagged_lines.specs.Variables.{own}

-- what is seen of a term: a variable, which wants a tag, or the variables with their tags
pub data Seen : Type 0 where
  bare : ℕ → Seen
  below : List TypedVariable → Seen

abbrev pub seen_below : Seen → List TypedVariable
seen_below (bare x) = []
seen_below (below vs) = vs

abbrev pub all_below : List Seen → List TypedVariable
all_below rs = flat_map seen_below rs

abbrev pub variable_of : ℕ → Ty → TypedVariable
variable_of x s = record { var = x; ty = s }

abbrev pub under_tag : Ty → List Seen → List TypedVariable
under_tag s [] = []
under_tag s (bare x ∷ []) = variable_of x s ∷ []
under_tag s (below vs ∷ []) = all_below (below vs ∷ [])
under_tag s (r ∷ q ∷ more) = all_below (r ∷ q ∷ more)

abbrev pub under_symbol : Option Symbol → List Seen → List TypedVariable
under_symbol None rs = all_below rs
under_symbol (Some (Tag s)) rs = under_tag s rs
under_symbol (Some Apply) rs = all_below rs
under_symbol (Some (Constant d s)) rs = all_below rs

abbrev pub seen_step : Signs → FoTerm-F Seen → Seen
seen_step signs (FoTerm-F.Var x) = bare x
seen_step signs (FoTerm-F.Fun f rs) = below (under_symbol (signs f) rs)

abbrev pub seen : Signs → FoTerm → Seen
seen signs = fold-FoTerm Seen (seen_step signs)

abbrev pub term_variables : Signs → FoTerm → List TypedVariable
term_variables signs t = seen_below (seen signs t)

abbrev pub terms_variables : Signs → List FoTerm → List TypedVariable
terms_variables signs ts = flat_map (term_variables signs) ts

abbrev pub literal_variables : Signs → Literal → List TypedVariable
literal_variables signs l = terms_variables signs (atom_terms l.atom)

abbrev pub typed_variables : Signs → List Literal → List TypedVariable
typed_variables signs ls = flat_map (literal_variables signs) ls

-- the own variables of a tagged clause are among these, at their types
abbrev pub OwnVariablesAreTagged : List Literal → Type 0
OwnVariablesAreTagged ls = (signs : Signs) (types : Types) → IsClause signs types ls → (x : ℕ) (s : Ty) → own ls types x ≡ Some s → IsIn (typed_variables signs ls) (variable_of x s)
