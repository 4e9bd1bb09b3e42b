-- How lifted formulas are written.
use Rattle.std.specs.Prelude.{ℕ, List, [], ◌∷◌, codes, length, Option, Some, None}
use Rattle.hol_terms.specs.declared.ty.Ty.{Ty}
use Rattle.hol_terms.specs.declared.term.Term.{Term}
use Rattle.hol_formulas.specs.Atoms.{sides}
use Rattle.hol_formulas.specs.declared.formula.Junction.{Junction}
use Rattle.hol_formulas.specs.declared.formula.Junction.TheVariants as junctions
use Rattle.hol_formulas.specs.declared.formula.Quantifier.{Quantifier}
use Rattle.hol_formulas.specs.declared.formula.Quantifier.TheVariants as quantifiers
use Rattle.hol_formulas.specs.declared.formula.Formula.{Formula}
use Rattle.hol_formulas.specs.declared.formula.Formula.TheOpen.{Formula-F}
use Rattle.hol_formulas.specs.declared.formula.Formula.TheFolds.{fold-Formula}
use Rattle.lambda_lift.specs.declared.table.Aux.{Aux}
use Rattle.theory_terms.specs.declared.decl.Decl.{Decl}
use Rattle.tptp_print.specs.declared.page.Page.{Page}
use Rattle.tptp_print.specs.Pages.{word, pieces}
use Rattle.tptp_print.specs.Terms.{variable, tagged, part}

-- ---- atoms

module _ (consts : List Decl) (table : List Aux) where
  abbrev pub atom_of : Option (Term × Term) → Term → List Ty → Page → Page
  atom_of None t c = pieces (word (codes "holds(") ∷ tagged (part consts table t c) ∷ word (codes ")") ∷ [])
  atom_of (Some e) t c = pieces (word (codes "(") ∷ tagged (part consts table e.0 c) ∷ word (codes " = ") ∷ tagged (part consts table e.1 c) ∷ word (codes ")") ∷ [])

  -- an equation by its sides, another atom as a term that holds
  abbrev pub atom_text : Term → List Ty → Page → Page
  atom_text t = atom_of (sides t) t

-- ---- formulas

abbrev pub sign : Junction → List ℕ
sign junctions.And = codes " & "
sign junctions.Or = codes " | "
sign junctions.Imp = codes " => "
sign junctions.Iff = codes " <=> "

abbrev pub quantifier_sign : Quantifier → List ℕ
quantifier_sign quantifiers.All = codes "(! ["
quantifier_sign quantifiers.Ex = codes "(? ["

-- a formula under quantifiers over variables of these types, the innermost first
abbrev pub formula_step : List Decl → List Aux → Formula-F (List Ty → Page → Page) → List Ty → Page → Page
formula_step consts table Formula-F.True c = word (codes "$true")
formula_step consts table Formula-F.False c = word (codes "$false")
formula_step consts table (Formula-F.Atom t) c = atom_text consts table t c
formula_step consts table (Formula-F.Not f) c = pieces (word (codes "(~ ") ∷ f c ∷ word (codes ")") ∷ [])
formula_step consts table (Formula-F.Two j f g) c = pieces (word (codes "(") ∷ f c ∷ word (sign j) ∷ g c ∷ word (codes ")") ∷ [])
formula_step consts table (Formula-F.Quantified q a t f) c =
    pieces (word (quantifier_sign q) ∷ variable (length c) ∷ word (codes "] : ") ∷ f (a ∷ c) ∷ word (codes ")") ∷ [])

abbrev pub formula_text : List Decl → List Aux → Formula → List Ty → Page → Page
formula_text consts table = fold-Formula (List Ty → Page → Page) (formula_step consts table)
