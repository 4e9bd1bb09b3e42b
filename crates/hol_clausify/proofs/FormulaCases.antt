-- Induction over formulas, one premise for each constructor.
use Rattle.std.proofs.Common.{subst}
use Rattle.hol_terms.specs.declared.ty.Ty.{Ty}
use Rattle.hol_terms.specs.declared.term.Term.{Term}
use Rattle.hol_formulas.specs.declared.formula.Junction.{Junction}
use Rattle.hol_formulas.specs.declared.formula.Quantifier.{Quantifier}
use Rattle.hol_formulas.specs.declared.formula.Formula.{Formula, roll-Formula}
use Rattle.hol_formulas.specs.declared.formula.Formula.TheOpen.{Formula-F}
use Rattle.hol_formulas.specs.declared.formula.Formula.TheFolds.{ind-Formula, map-Formula}

module _ (P : Formula → Type 0)
    (verum : P (roll-Formula Formula-F.True))
    (falsum : P (roll-Formula Formula-F.False))
    (atom : (t : Term) → P (roll-Formula (Formula-F.Atom t)))
    (negation : (a : Formula) → P a → P (roll-Formula (Formula-F.Not a)))
    (two : (j : Junction) (a b : Formula) → P a → P b → P (roll-Formula (Formula-F.Two j a b)))
    (quantified : (q : Quantifier) (a : Ty) (t : Term) (b : Formula) → P b → P (roll-Formula (Formula-F.Quantified q a t b))) where
  at : (y : Formula-F ((f : Formula) × P f)) → P (roll-Formula (map-Formula ((f : Formula) × P f) Formula (λ e. e.0) y))
  at Formula-F.True = verum
  at Formula-F.False = falsum
  at (Formula-F.Atom t) = atom t
  at (Formula-F.Not a) = negation a.0 a.1
  at (Formula-F.Two j a b) = two j a.0 b.0 a.1 b.1
  at (Formula-F.Quantified q a t b) = quantified q a t b.0 b.1

  pub formula_by_cases : (f : Formula) → P f
  formula_by_cases = ind-Formula P (λ x y is. subst (λ z. P (roll-Formula z)) is (at y))
