-- Formulas as terms again, and what is at a place of a formula.
use Rattle.std.specs.Prelude.{◌≡◌}
use Rattle.hol_terms.specs.declared.ty.Ty.{Ty}
use Rattle.hol_terms.specs.declared.term.Term.{Term}
use Rattle.hol_terms.specs.Types.{bool_ty}
use Rattle.kernel_rules.specs.Connectives.{verum, falsum, neg, conj, disj, imp, equal, all, some, lambda}
use Rattle.hol_formulas.specs.Formulas.{formula_of}
use Rattle.hol_formulas.specs.declared.formula.Junction.{Junction}
use Rattle.hol_formulas.specs.declared.formula.Junction.TheVariants as junctions
use Rattle.hol_formulas.specs.declared.formula.Quantifier.{Quantifier}
use Rattle.hol_formulas.specs.declared.formula.Quantifier.TheVariants as quantifiers
use Rattle.hol_formulas.specs.declared.formula.Formula.{Formula}
use Rattle.hol_formulas.specs.declared.formula.Formula.TheOpen.{Formula-F}
use Rattle.hol_formulas.specs.declared.formula.Formula.TheFolds.{fold-Formula}

abbrev pub junction : Junction → Term → Term → Term
junction junctions.And a b = conj a b
junction junctions.Or a b = disj a b
junction junctions.Imp a b = imp a b
junction junctions.Iff a b = equal bool_ty a b

abbrev pub quantifier : Quantifier → Ty → Term → Term
quantifier quantifiers.All a f = all a f
quantifier quantifiers.Ex a f = some a f

-- the term that a formula was read from; a quantifier has its body as a term, too
abbrev pub term_step : Formula-F Term → Term
term_step Formula-F.True = verum
term_step Formula-F.False = falsum
term_step (Formula-F.Atom t) = t
term_step (Formula-F.Not a) = neg a
term_step (Formula-F.Two j a b) = junction j a b
term_step (Formula-F.Quantified q a t b) = quantifier q a (lambda a t)

abbrev pub term_of : Formula → Term
term_of = fold-Formula Term term_step

-- the formula is what its term is read as
abbrev pub IsRead : Formula → Type 0
IsRead f = f ≡ formula_of (term_of f)
