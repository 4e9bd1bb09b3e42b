-- The sides of an equation as code lends them.
use Rattle.std.specs.Prelude.{◌≡◌, Option, Some, None}
use Rattle.hol_terms.specs.declared.term.Term.{Term}
use Rattle.hol_formulas.specs.declared.atom.Sides.{Sides}

abbrev pub IsSides : Option Sides → Option (Term × Term) → Type 0
IsSides (Some e) sides = sides ≡ Some (e.left.now, e.right.now)
IsSides None sides = sides ≡ None
