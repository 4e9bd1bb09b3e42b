-- How formulas are written. A quantifier's variable is written as the number that it has in the formula.
use Rattle.std.specs.Prelude.{ℕ, List, [], ◌∷◌, ◌++◌, codes}
use Rattle.fo_terms.specs.declared.formula.FoFormula.{FoFormula}
use Rattle.fo_terms.specs.declared.formula.FoFormula.TheOpen.{FoFormula-F}
use Rattle.fo_terms.specs.declared.formula.FoFormula.TheFolds.{fold-FoFormula}
use Rattle.tstp_print.specs.Terms.{variable_text, atom_text}

-- two formulas with a sign between them
abbrev pub joined_text : List ℕ → List ℕ → List ℕ → List ℕ
joined_text sign a b = codes "(" ++ a ++ sign ++ b ++ codes ")"

-- a quantifier with its variable, before its formula
abbrev pub quantifier_text : ℕ → ℕ → List ℕ
quantifier_text sign x = codes "(" ++ sign ∷ [] ++ codes " [" ++ variable_text x ++ codes "] : "

abbrev pub quantified_text : ℕ → ℕ → List ℕ → List ℕ
quantified_text sign x a = quantifier_text sign x ++ a ++ codes ")"

abbrev pub formula_step : List (List ℕ) → FoFormula-F (List ℕ) → List ℕ
formula_step names FoFormula-F.True = codes "$true"
formula_step names FoFormula-F.False = codes "$false"
formula_step names (FoFormula-F.Atom t) = atom_text names t
formula_step names (FoFormula-F.Not a) = codes "(~ " ++ a ++ codes ")"
formula_step names (FoFormula-F.And a b) = joined_text (codes " & ") a b
formula_step names (FoFormula-F.Or a b) = joined_text (codes " | ") a b
formula_step names (FoFormula-F.Imp a b) = joined_text (codes " => ") a b
formula_step names (FoFormula-F.Iff a b) = joined_text (codes " <=> ") a b
formula_step names (FoFormula-F.Each x a) = quantified_text 33 x a
formula_step names (FoFormula-F.One x a) = quantified_text 63 x a

abbrev pub formula_text : List (List ℕ) → FoFormula → List ℕ
formula_text names = fold-FoFormula (List ℕ) (formula_step names)
