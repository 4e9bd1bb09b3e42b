-- Finite sets of terms.
use Rattle.std.specs.Prelude.{ℕ, Bool, not, List, map, IsTrue}
use Rattle.std.specs.List.{list_all}
use Rattle.std.specs.FinSet as set
use Rattle.hol_terms.specs.declared.ty.Ty.{Ty}
use Rattle.hol_terms.specs.declared.term.Term.{Term}
use Rattle.hol_terms.specs.Substitution.{occurs}
use Rattle.hyp_sets.specs.Order.{term_cmp}

abbrev pub TermSet : Type 0
TermSet = set.FinSet term_cmp

-- the set of a list's terms
abbrev pub set_of : List Term → TermSet
set_of = set.from_list

-- `{t}`
abbrev pub only : Term → TermSet
only t = set.insert set.empty t

-- the term is in the set
abbrev pub Holds : TermSet → Term → Type 0
Holds s x = IsTrue (set.contains s x)

-- each term of `s` is one of `t`
abbrev pub Among : TermSet → TermSet → Type 0
Among s t = (x : Term) → Holds s x → Holds t x

-- the set of what `f` makes of the terms
unfoldable pub image : (Term → Term) → TermSet → TermSet
image f s = set_of (map f (set.items s))

-- each term of the set passes
unfoldable pub all_in : (Term → Bool) → TermSet → Bool
all_in p s = list_all p (set.items s)

-- `Free n a` doesn't occur in the term
abbrev pub absent_in : ℕ → Ty → Term → Bool
absent_in n a x = not (occurs n a x)

-- `Free n a` occurs in no term of the set
abbrev pub absent : ℕ → Ty → TermSet → Bool
absent n a = all_in (absent_in n a)
