-- How often the walk meets the place of a formula that it meets most often.
use Rattle.std.specs.Prelude.{ℕ, ◌*◌, max}
use Rattle.fo_terms.specs.declared.formula.FoFormula.{FoFormula}
use Rattle.fo_terms.specs.declared.formula.FoFormula.TheOpen.{FoFormula-F}
use Rattle.fo_terms.specs.declared.formula.FoFormula.TheFolds.{fold-FoFormula}

-- each side of an equivalence is met with both signs
abbrev pub meetings_step : FoFormula-F ℕ → ℕ
meetings_step FoFormula-F.True = 1
meetings_step FoFormula-F.False = 1
meetings_step (FoFormula-F.Atom a) = 1
meetings_step (FoFormula-F.Not a) = a
meetings_step (FoFormula-F.And a b) = max a b
meetings_step (FoFormula-F.Or a b) = max a b
meetings_step (FoFormula-F.Imp a b) = max a b
meetings_step (FoFormula-F.Iff a b) = 2 * max a b
meetings_step (FoFormula-F.Each x b) = b
meetings_step (FoFormula-F.One x b) = b

abbrev pub meetings : FoFormula → ℕ
meetings = fold-FoFormula ℕ meetings_step
