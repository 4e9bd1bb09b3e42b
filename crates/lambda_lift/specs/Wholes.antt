-- A lifted formula and the equations of its auxiliary constants as one formula.
use Rattle.std.specs.Prelude.{Bool, if◌then◌else◌, List, [], ◌∷◌}
use Rattle.hol_terms.specs.declared.konst.Konst.TheVariants as konst
use Rattle.hol_terms.specs.declared.term.Term.{Term, roll-Term}
use Rattle.hol_terms.specs.declared.term.Term.TheOpen.{Term-F}
use Rattle.lambda_lift.specs.Walks.{with_two}
use Rattle.lambda_lift.specs.Lifting.{Outcome}

-- `t & (t1 & (.. & tn))`
abbrev pub conjunction : Term → List Term → Term
conjunction t [] = t
conjunction t (u ∷ us) = with_two konst.And t (conjunction u us)

-- the conjunction of the terms; `true` where there are none
abbrev pub all_of : List Term → Term
all_of [] = roll-Term (Term-F.Con konst.True)
all_of (t ∷ ts) = conjunction t ts

-- a lifted formula with equations: beside it where it is a fact, as its premises where it is a goal
abbrev pub with_equations : Bool → Term → List Term → Term
with_equations goal t [] = t
with_equations goal t (e ∷ es) = if goal then with_two konst.Imp (all_of (e ∷ es)) t else with_two konst.And t (all_of (e ∷ es))

abbrev pub whole : Bool → Outcome → Term
whole goal o = with_equations goal o.body o.equations
