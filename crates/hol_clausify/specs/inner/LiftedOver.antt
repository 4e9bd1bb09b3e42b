-- What a lift has given, over a table that has grown since.
use Rattle.std.specs.Prelude.{◌≡◌, ◌<◌, Bool, List, ◌++◌}
use Rattle.hol_terms.specs.declared.sig.Sig.{Sig}
use Rattle.hol_terms.specs.declared.term.Term.{Term}
use Rattle.lambda_lift.specs.declared.table.Aux.{Aux}
use Rattle.lambda_lift.specs.declared.lifting.Lifted.{Lifted}
use Rattle.lambda_lift.specs.Lifting.{Outcome, lifted}
use Rattle.lambda_lift.specs.Wholes.{with_equations}
use Rattle.lambda_lift.specs.Standing.{Each, StandsAlone}

-- it is the formula over some table `old`; the table now has all of that behind the lift first, and its entries stand alone, as those of `old` do
pub record IsLifted (sig : Sig) (t : Term) (l : Lifted) (table : List Aux) : Type 0 where
  pub has_bool : 0 < sig.types
  pub old : List Aux
  pub old_alone : Each (StandsAlone sig) old
  pub body : l.body ≡ (lifted sig old t).body
  pub equations : l.equations ≡ (lifted sig old t).equations
  pub more : List Aux
  pub grown : table ≡ (lifted sig old t).table ++ more
  pub alone : Each (StandsAlone sig) table

-- the lifted formula with its equations, as a fact or as a goal
abbrev pub whole_of : Bool → Lifted → Term
whole_of goal l = with_equations goal l.body l.equations
