-- Literals, and the hypotheses that the theorem of a clause may have.
use Rattle.std.specs.Prelude.{Bool, true, false, if◌then◌else◌, List, map}
use Rattle.std.specs.FinSet as set
use Rattle.hol_terms.specs.declared.term.Term.{Term}
use Rattle.hyp_sets.specs.Sets.{TermSet, set_of, Among}
use Rattle.kernel_rules.specs.Connectives.{neg, left_of, right_of}
use Rattle.hol_terms.specs.declared.literal.TypedLiteral.{TypedLiteral}

-- the negation of a literal, without a double one
abbrev pub denied : TypedLiteral → Term
denied l = if l.positive then neg l.atom else l.atom

abbrev pub positive : Term → TypedLiteral
positive a = record { positive = true; atom = a }

abbrev pub negative : Term → TypedLiteral
negative a = record { positive = false; atom = a }

-- the literal with another atom
abbrev pub with_atom : TypedLiteral → Term → TypedLiteral
with_atom l a = record { positive = l.positive; atom = a }

-- the sides of an equation, as it is read from left to right or from right to left
abbrev pub source : Bool → Term → Term
source swapped e = if swapped then right_of e else left_of e

abbrev pub target : Bool → Term → Term
target swapped e = if swapped then left_of e else right_of e

-- the base hypotheses, and the negations of the literals
unfoldable pub allowed : TermSet → List TypedLiteral → TermSet
allowed base ls = set.union base (set_of (map denied ls))
