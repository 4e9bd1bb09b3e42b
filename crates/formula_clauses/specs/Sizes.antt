-- How large a term or formula is.
use Rattle.std.specs.Prelude.{ℕ, ◌+◌, ◌*◌, max, Bool, nat_le}
use Rattle.hol_terms.specs.declared.term.Term.{Term}
use Rattle.hol_terms.specs.declared.term.Term.TheOpen.{Term-F}
use Rattle.hol_terms.specs.declared.term.Term.TheFolds.{fold-Term}
use Rattle.hol_formulas.specs.declared.formula.Junction.{Junction}
use Rattle.hol_formulas.specs.declared.formula.Junction.TheVariants as junctions
use Rattle.hol_formulas.specs.declared.formula.Formula.{Formula}
use Rattle.hol_formulas.specs.declared.formula.Formula.TheOpen.{Formula-F}
use Rattle.hol_formulas.specs.declared.formula.Formula.TheFolds.{fold-Formula}

-- the nodes of a term: each constructor is one
abbrev pub nodes_step : Term-F ℕ → ℕ
nodes_step (Term-F.Bound i) = 1
nodes_step (Term-F.Free n a) = 1
nodes_step (Term-F.Con k) = 1
nodes_step (Term-F.App f x) = f + x + 1
nodes_step (Term-F.Lam a b) = b + 1

abbrev pub nodes : Term → ℕ
nodes = fold-Term ℕ nodes_step

-- a closed term that isn't too large
abbrev pub is_small : Term → Bool
is_small t = nat_le (nodes t) 2048

-- how often the walk meets the place that it meets most often: each side of an `=` it meets with both signs
abbrev pub met_in : Junction → ℕ → ℕ → ℕ
met_in junctions.Iff a b = 2 * max a b
met_in _ a b = max a b

abbrev pub meetings_step : Formula-F ℕ → ℕ
meetings_step Formula-F.True = 1
meetings_step Formula-F.False = 1
meetings_step (Formula-F.Atom t) = 1
meetings_step (Formula-F.Not a) = a
meetings_step (Formula-F.Two j a b) = met_in j a b
meetings_step (Formula-F.Quantified q a t b) = b

abbrev pub meetings : Formula → ℕ
meetings = fold-Formula ℕ meetings_step
