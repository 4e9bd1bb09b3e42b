-- A term of the kernel has the connectives of a formula.
use Rattle.std.specs.Prelude.{Bool, true, ◌&&◌}
use Rattle.hol_terms.specs.declared.term.Term.{Term}
use Rattle.hyp_sets.specs.Order.{is_same}
use Rattle.kernel_rules.specs.Connectives.{verum, falsum, neg, lambda, left_of, right_of}
use Rattle.hol_formulas.specs.declared.formula.Formula.{Formula}
use Rattle.hol_formulas.specs.declared.formula.Formula.TheOpen.{Formula-F}
use Rattle.hol_formulas.specs.declared.formula.Formula.TheFolds.{fold-Formula}
use Rattle.hol_clausify.specs.Places.{junction, quantifier}
use Rattle.hol_clausify.specs.Refutations.{under_quantifier}

abbrev pub Test : Type 0
Test = Term → Bool

abbrev pub matches_step : Formula-F Test → Test
matches_step Formula-F.True t = is_same t verum
matches_step Formula-F.False t = is_same t falsum
matches_step (Formula-F.Atom u) t = true
matches_step (Formula-F.Not a) t = is_same t (neg (right_of t)) && a (right_of t)
matches_step (Formula-F.Two j a b) t = is_same t (junction j (left_of t) (right_of t)) && (a (left_of t) && b (right_of t))
matches_step (Formula-F.Quantified q a u b) t = is_same t (quantifier q a (lambda a (under_quantifier t))) && b (under_quantifier t)

unfoldable pub matches : Formula → Term → Bool
matches = fold-Formula Test matches_step
