-- Instances depend on what is put for a clause's own variables alone, at their types.
use Rattle.std.specs.Prelude.{◌≡◌, ℕ, List, Some}
use Rattle.hol_terms.specs.declared.ty.Ty.{Ty}
use Rattle.hol_terms.specs.declared.term.Term.{Term}
use Rattle.fo_terms.specs.declared.literal.Literal.{Literal}
use Rattle.tagged_terms.specs.Readings.{Signs, Types}
use Rattle.tagged_terms.specs.Clauses.{literals_of, IsClause}
use Rattle.tagged_terms.specs.Fits.{AreClosed}
use Rattle.tagged_lines.specs.TypedLiterals.{typed_literals}
use Rattle.tagged_lines.specs.Variables.{own}

-- replacements that agree on the typed variables of a clause give it one instance
abbrev pub InstancesAgree : List Literal → Type 0
InstancesAgree ls = (signs : Signs) (types : Types) (v w : ℕ → Ty → Term) → AreClosed signs → IsClause signs types ls → ((x : ℕ) (s : Ty) → own ls types x ≡ Some s → v x s ≡ w x s)
    → typed_literals v (literals_of signs ls) ≡ typed_literals w (literals_of signs ls)
