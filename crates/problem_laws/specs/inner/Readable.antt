-- Formulas that can be read: what is written of an atom holds no lambda, no free variable and no loose index.
use Rattle.std.specs.Prelude.{ℕ, suc, nat_lt, Bool, true, false, ◌&&◌, Option, Some, None}
use Rattle.hol_terms.specs.declared.term.Term.{Term}
use Rattle.hol_terms.specs.declared.term.Term.TheOpen.{Term-F}
use Rattle.hol_terms.specs.declared.term.Term.TheFolds.{fold-Term}
use Rattle.hol_formulas.specs.Atoms.{sides}
use Rattle.hol_formulas.specs.declared.formula.Formula.{Formula}
use Rattle.hol_formulas.specs.declared.formula.Formula.TheOpen.{Formula-F}
use Rattle.hol_formulas.specs.declared.formula.Formula.TheFolds.{fold-Formula}

-- a term under so many quantifiers
abbrev pub term_step : Term-F (ℕ → Bool) → ℕ → Bool
term_step (Term-F.Bound i) n = nat_lt i n
term_step (Term-F.Free m a) n = false
term_step (Term-F.Con k) n = true
term_step (Term-F.App f x) n = f n && x n
term_step (Term-F.Lam a b) n = false

abbrev pub readable_term : Term → ℕ → Bool
readable_term = fold-Term (ℕ → Bool) term_step

-- an equation by its sides
abbrev pub atom_readable : Option (Term × Term) → Term → ℕ → Bool
atom_readable None t n = readable_term t n
atom_readable (Some e) t n = readable_term e.0 n && readable_term e.1 n

abbrev pub formula_step : Formula-F (ℕ → Bool) → ℕ → Bool
formula_step Formula-F.True n = true
formula_step Formula-F.False n = true
formula_step (Formula-F.Atom t) n = atom_readable (sides t) t n
formula_step (Formula-F.Not f) n = f n
formula_step (Formula-F.Two j f g) n = f n && g n
formula_step (Formula-F.Quantified q a t f) n = f (suc n)

abbrev pub readable : Formula → ℕ → Bool
readable = fold-Formula (ℕ → Bool) formula_step
