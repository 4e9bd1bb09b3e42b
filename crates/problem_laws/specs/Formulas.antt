-- Lifted formulas as first-order ones, whose symbols have names.
use Rattle.std.specs.Prelude.{ℕ, ◌-◌, List, [], ◌∷◌, codes, length, Option, Some, None}
use Rattle.hol_terms.specs.declared.ty.Ty.{Ty, out-Ty}
use Rattle.hol_terms.specs.declared.term.Term.{Term}
use Rattle.hol_terms.specs.declared.term.Term.TheOpen.{Term-F}
use Rattle.hol_terms.specs.declared.term.Term.TheFolds.{fold-Term}
use Rattle.hol_terms.specs.Types.{function_ty}
use Rattle.hol_formulas.specs.Atoms.{sides}
use Rattle.hol_formulas.specs.declared.formula.Junction.{Junction}
use Rattle.hol_formulas.specs.declared.formula.Junction.TheVariants as junctions
use Rattle.hol_formulas.specs.declared.formula.Quantifier.{Quantifier}
use Rattle.hol_formulas.specs.declared.formula.Quantifier.TheVariants as quantifiers
use Rattle.hol_formulas.specs.declared.formula.Formula.{Formula}
use Rattle.hol_formulas.specs.declared.formula.Formula.TheOpen.{Formula-F}
use Rattle.hol_formulas.specs.declared.formula.Formula.TheFolds.{fold-Formula}
use Rattle.lambda_lift.specs.declared.table.Aux.{Aux}
use Rattle.lambda_lift.specs.Closing.{ty_at}
use Rattle.lambda_lift.specs.Equations.{result_at}
use Rattle.theory_terms.specs.declared.decl.Decl.{Decl}
use Rattle.tptp_print.specs.Terms.{konst_ty}
use Rattle.fo_terms.specs.declared.term.FoTerm.{FoTerm, Var, Fun}
use Rattle.fo_terms.specs.declared.atom.Atom.TheVariants.{Holds, Eq}
use Rattle.fo_terms.specs.declared.formula.FoFormula.{FoFormula}
use Rattle.fo_terms.specs.declared.formula.FoFormula.TheVariants as formula
use Rattle.problem_laws.specs.Names.{tag_name, konst_name}

-- a term that is to be tagged: its type, and the core below the tag
pub record Core : Type 0 where
  pub ty : Ty
  pub core : FoTerm

abbrev pub joined : Junction → FoFormula → FoFormula → FoFormula
joined junctions.And f g = formula.And f g
joined junctions.Or f g = formula.Or f g
joined junctions.Imp f g = formula.Imp f g
joined junctions.Iff f g = formula.Iff f g

abbrev pub bound : Quantifier → ℕ → FoFormula → FoFormula
bound quantifiers.All n f = formula.Each n f
bound quantifiers.Ex n f = formula.One n f

-- `number`: the numbers of symbols by their names; `types`: those that have numbers
module _ (number : List ℕ → ℕ) (types : List Ty) where
  abbrev pub tagged : Core → FoTerm
  tagged p = Fun (number (tag_name types p.ty)) (p.core ∷ [])

  abbrev pub application : Core → Core → Core
  application f x = record { ty = result_at f.ty (out-Ty f.ty); core = Fun (number (codes "app")) (tagged f ∷ tagged x ∷ []) }

  module _ (consts : List Decl) (table : List Aux) where
    -- a term under quantifiers over variables of these types, the innermost first; a quantifier's variable is the number of quantifiers around
    -- it. A lambda has no core: a variable stands in its place
    abbrev pub core_step : Term-F (List Ty → Core) → List Ty → Core
    core_step (Term-F.Bound i) c = record { ty = ty_at c i; core = Var (length c - 1 - i) }
    core_step (Term-F.Free n a) c = record { ty = a; core = Var n }
    core_step (Term-F.Con k) c = record { ty = konst_ty consts table k; core = Fun (number (konst_name types consts k)) [] }
    core_step (Term-F.App f x) c = application (f c) (x c)
    core_step (Term-F.Lam a b) c = record { ty = function_ty a (b (a ∷ c)).ty; core = Var 0 }

    abbrev pub core_of : Term → List Ty → Core
    core_of = fold-Term (List Ty → Core) core_step

    -- an equation by its sides; another atom is a term of which the symbol `holds` holds
    abbrev pub atom_of : Option (Term × Term) → Term → List Ty → FoFormula
    atom_of None t c = formula.Atom (Holds (Fun (number (codes "holds")) (tagged (core_of t c) ∷ [])))
    atom_of (Some e) t c = formula.Atom (Eq (tagged (core_of e.0 c)) (tagged (core_of e.1 c)))

    abbrev pub formula_step : Formula-F (List Ty → FoFormula) → List Ty → FoFormula
    formula_step Formula-F.True c = formula.True
    formula_step Formula-F.False c = formula.False
    formula_step (Formula-F.Atom t) c = atom_of (sides t) t c
    formula_step (Formula-F.Not f) c = formula.Not (f c)
    formula_step (Formula-F.Two j f g) c = joined j (f c) (g c)
    formula_step (Formula-F.Quantified q a t f) c = bound q (length c) (f (a ∷ c))

    abbrev pub formula_named : Formula → List Ty → FoFormula
    formula_named = fold-Formula (List Ty → FoFormula) formula_step
