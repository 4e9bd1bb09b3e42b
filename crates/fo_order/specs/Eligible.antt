-- Which literals of a clause take part in inferences.
use Rattle.std.specs.Prelude.{◌≡◌, ◌≢◌, ℕ, ◌⊎◌, Some, slice_get}
use Rattle.fo_terms.specs.declared.term.FoTerm.{FoTerm}
use Rattle.fo_terms.specs.declared.atom.Atom.{Atom}
use Rattle.fo_terms.specs.declared.atom.Atom.TheVariants.{Holds, Eq}
use Rattle.fo_terms.specs.declared.literal.Literal.{Literal}
use Rattle.fo_terms.specs.declared.clause.Clause.{Clause}
use Rattle.fo_order.specs.KnuthBendix.{Above}

-- the term is less than some term of the atom
abbrev pub IsBelowSome : FoTerm → Atom → Type 0
IsBelowSome s (Holds t) = Above t s
IsBelowSome s (Eq t u) = Above t s ⊎ Above u s

-- each term of the left atom is less than some term of the right one
abbrev pub IsBelow : Atom → Atom → Type 0
IsBelow (Holds s) b = IsBelowSome s b
IsBelow (Eq s t) b = IsBelowSome s b × IsBelowSome t b

-- the literal at the place is below no other of its clause, whatever their signs
abbrev pub IsEligible : Clause → ℕ → Type 0
IsEligible c i = (j : ℕ) (l m : Literal) → i ≢ j → slice_get c.literals i ≡ Some l → slice_get c.literals j ≡ Some m → IsBelow l.atom m.atom → ⊥
