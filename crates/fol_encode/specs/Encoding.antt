-- How terms, atoms and formulas are encoded.
use Rattle.std.specs.Prelude.{ℕ, ◌-◌, List, [], ◌∷◌, length, slice_get, Option, Some, None}
use Rattle.hol_terms.specs.declared.ty.Ty.{Ty, out-Ty}
use Rattle.hol_terms.specs.declared.konst.Konst.{Konst}
use Rattle.hol_terms.specs.declared.term.Term.{Term}
use Rattle.hol_terms.specs.declared.term.Term.TheOpen.{Term-F}
use Rattle.hol_terms.specs.declared.term.Term.TheFolds.{fold-Term}
use Rattle.hol_terms.specs.Types.{bool_ty, function_ty}
use Rattle.hol_formulas.specs.Atoms.{sides}
use Rattle.hol_formulas.specs.declared.formula.Junction.{Junction}
use Rattle.hol_formulas.specs.declared.formula.Junction.TheVariants as junctions
use Rattle.hol_formulas.specs.declared.formula.Quantifier.{Quantifier}
use Rattle.hol_formulas.specs.declared.formula.Quantifier.TheVariants as quantifiers
use Rattle.hol_formulas.specs.declared.formula.Formula.{Formula}
use Rattle.hol_formulas.specs.declared.formula.Formula.TheOpen.{Formula-F}
use Rattle.hol_formulas.specs.declared.formula.Formula.TheFolds.{fold-Formula}
use Rattle.lambda_lift.specs.Closing.{ty_at}
use Rattle.lambda_lift.specs.Equations.{result_at}
use Rattle.fo_terms.specs.declared.term.FoTerm.{FoTerm}
use Rattle.fo_terms.specs.Substitution.{var, fun}
use Rattle.fo_terms.specs.declared.atom.Atom.{Atom}
use Rattle.fo_terms.specs.declared.atom.Atom.TheVariants as atoms
use Rattle.fo_terms.specs.declared.formula.FoFormula.{FoFormula, roll-FoFormula}
use Rattle.fo_terms.specs.declared.formula.FoFormula.TheOpen.{FoFormula-F}
use Rattle.fol_encode.specs.declared.sign.Sign.{Sign}
use Rattle.fol_encode.specs.declared.sign.Sign.TheVariants as sign
use Rattle.fol_encode.specs.declared.term.Coded.{Coded}
use Rattle.fol_encode.specs.Signs.{number_of}

-- ---- terms

-- `Coded` is a term that is to be tagged: its type, and the core below the tag
abbrev pub tagged : List Sign → Coded → FoTerm
tagged signs d = fun (number_of signs (sign.Tag d.ty)) (d.core ∷ [])

-- the type that a sign says of its constant
abbrev pub ty_of_sign : Option Sign → Ty
ty_of_sign (Some (sign.Constant k a)) = a
ty_of_sign (Some (sign.Tag a)) = bool_ty
ty_of_sign (Some sign.Apply) = bool_ty
ty_of_sign None = bool_ty

abbrev pub numbered : List Sign → ℕ → Coded
numbered signs f = record { ty = ty_of_sign (slice_get signs f); core = fun f [] }

-- a constant by its number: its type isn't asked for that
abbrev pub constant : List Sign → Konst → Coded
constant signs k = numbered signs (number_of signs (sign.Constant k bool_ty))

abbrev pub application : List Sign → Coded → Coded → Coded
application signs f x =
    record {
      ty = result_at f.ty (out-Ty f.ty);
      core = fun (number_of signs sign.Apply) (tagged signs f ∷ tagged signs x ∷ []);
    }

-- a term under quantifiers over variables of these types, the innermost first; a quantifier's variable is the number of quantifiers around it.
-- A lambda isn't encoded: a variable stands in its place
abbrev pub coded_step : List Sign → Term-F (List Ty → Coded) → List Ty → Coded
coded_step signs (Term-F.Bound i) c = record { ty = ty_at c i; core = var (length c - 1 - i) }
coded_step signs (Term-F.Free n a) c = record { ty = a; core = var n }
coded_step signs (Term-F.Con k) c = constant signs k
coded_step signs (Term-F.App f x) c = application signs (f c) (x c)
coded_step signs (Term-F.Lam a b) c = record { ty = function_ty a (b (a ∷ c)).ty; core = var 0 }

abbrev pub coded : List Sign → Term → List Ty → Coded
coded signs = fold-Term (List Ty → Coded) (coded_step signs)

abbrev pub encoded : List Sign → Term → List Ty → FoTerm
encoded signs t c = tagged signs (coded signs t c)

-- ---- atoms

abbrev pub atom_of : List Sign → Option (Term × Term) → Term → List Ty → Atom
atom_of signs None t c = atoms.Holds (encoded signs t c)
atom_of signs (Some e) t c = atoms.Eq (encoded signs e.0 c) (encoded signs e.1 c)

-- an equation at another type than bool by its sides, another term as one that holds
abbrev pub atom_encoded : List Sign → Term → List Ty → Atom
atom_encoded signs t = atom_of signs (sides t) t

-- ---- formulas

abbrev pub joined : Junction → FoFormula → FoFormula → FoFormula
joined junctions.And f g = roll-FoFormula (FoFormula-F.And f g)
joined junctions.Or f g = roll-FoFormula (FoFormula-F.Or f g)
joined junctions.Imp f g = roll-FoFormula (FoFormula-F.Imp f g)
joined junctions.Iff f g = roll-FoFormula (FoFormula-F.Iff f g)

abbrev pub bound : Quantifier → ℕ → FoFormula → FoFormula
bound quantifiers.All n f = roll-FoFormula (FoFormula-F.Each n f)
bound quantifiers.Ex n f = roll-FoFormula (FoFormula-F.One n f)

abbrev pub formula_step : List Sign → Formula-F (List Ty → FoFormula) → List Ty → FoFormula
formula_step signs Formula-F.True c = roll-FoFormula FoFormula-F.True
formula_step signs Formula-F.False c = roll-FoFormula FoFormula-F.False
formula_step signs (Formula-F.Atom t) c = roll-FoFormula (FoFormula-F.Atom (atom_encoded signs t c))
formula_step signs (Formula-F.Not f) c = roll-FoFormula (FoFormula-F.Not (f c))
formula_step signs (Formula-F.Two j f g) c = joined j (f c) (g c)
formula_step signs (Formula-F.Quantified q a t f) c = bound q (length c) (f (a ∷ c))

abbrev pub formula_encoded : List Sign → Formula → List Ty → FoFormula
formula_encoded signs = fold-Formula (List Ty → FoFormula) (formula_step signs)
