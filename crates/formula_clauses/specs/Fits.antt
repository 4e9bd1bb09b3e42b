-- When a formula is small enough to be made clauses.
use Rattle.std.specs.Prelude.{Bool, not, ◌&&◌, nat_le, List, []}
use Rattle.std.specs.List.{list_all}
use Rattle.hol_terms.specs.declared.sig.Sig.{Sig}
use Rattle.hol_terms.specs.declared.term.Term.{Term}
use Rattle.lambda_lift.specs.declared.table.Aux.{Aux}
use Rattle.lambda_lift.specs.Tables.{closed_terms}
use Rattle.lambda_lift.specs.Lifting.{Outcome, lifted}
use Rattle.lambda_lift.specs.Wholes.{whole}
use Rattle.hol_formulas.specs.Formulas.{formula_of}
use Rattle.formula_clauses.specs.Sizes.{nodes, is_small, meetings}
use Rattle.formula_clauses.specs.Walks.{Progress, Walked, walked}

abbrev pub at_start : List Aux → Progress
at_start table = record { next = 0; table = table }

-- the walk over a fact, with the positive sign, or over a goal, with the negative one
abbrev pub clausified : Bool → Outcome → Walked
clausified goal l = walked (formula_of (whole goal l)) (not goal) [] (at_start l.table)

-- no place is met too often, no list on the way has too many clauses, no closed term on the way is too large
abbrev pub walk_fits : Bool → Outcome → Bool
walk_fits goal l =
    list_all is_small (closed_terms l.table) && (nat_le (meetings (formula_of (whole goal l))) 64 && ((clausified goal l).few && (clausified goal l).small))

-- the formula isn't too large, nor is what is made of it as a fact or as a goal, over the empty table
unfoldable pub fits : Sig → Term → Bool → Bool
fits sig t goal = nat_le (nodes t) 1024 && walk_fits goal (lifted sig [] t)
