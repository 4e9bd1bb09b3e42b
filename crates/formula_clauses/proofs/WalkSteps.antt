-- The walk at each kind of formula.
use Rattle.std.proofs.Common.{◌≡◌, Bool, not, List, ap, ◌∙◌}
use Rattle.hol_terms.specs.declared.ty.Ty.{Ty}
use Rattle.hol_terms.specs.declared.term.Term.{Term}
use Rattle.hol_formulas.specs.declared.formula.Junction.{Junction}
use Rattle.hol_formulas.specs.declared.formula.Quantifier.{Quantifier}
use Rattle.hol_formulas.specs.declared.formula.Formula as formula
use Rattle.hol_formulas.specs.declared.formula.Formula.{Formula, roll-Formula}
use Rattle.hol_formulas.specs.declared.formula.Formula.TheOpen.{Formula-F}
use Rattle.hol_formulas.specs.declared.formula.Formula.TheFolds.{fold-roll-Formula}
use Rattle.formula_clauses.specs.Choices.{put_in}
use Rattle.formula_clauses.specs.Walks.{Progress, Walk, walked, walk_step, leaf, truth, literal, junction_pass, quantified_pass}
use Rattle.formula_clauses.proofs.Made.{true_is, false_is, atom_is, not_is, two_is, quantified_is}

module _ (s : Bool) (e : List Term) (p : Progress) where
  pub at_true : (f : Formula) → f ≡ formula.True → walked f s e p ≡ leaf (truth s) p
  unfolding walked
  at_true f is = ap (λ g. walked g s e p) (is ∙ true_is) ∙ ap (λ (g : Walk). g s e p) (fold-roll-Formula Walk walk_step Formula-F.True)

  pub at_false : (f : Formula) → f ≡ formula.False → walked f s e p ≡ leaf (truth (not s)) p
  unfolding walked
  at_false f is = ap (λ g. walked g s e p) (is ∙ false_is) ∙ ap (λ (g : Walk). g s e p) (fold-roll-Formula Walk walk_step Formula-F.False)

  pub at_atom : (f : Formula) (t : Term) → f ≡ formula.Atom t → walked f s e p ≡ leaf (literal s (put_in e t 0)) p
  unfolding walked
  at_atom f t is = ap (λ g. walked g s e p) (is ∙ atom_is t) ∙ ap (λ (g : Walk). g s e p) (fold-roll-Formula Walk walk_step (Formula-F.Atom t))

  pub at_not : (f a : Formula) → f ≡ formula.Not a → walked f s e p ≡ walked a (not s) e p
  unfolding walked
  at_not f a is = ap (λ g. walked g s e p) (is ∙ not_is a) ∙ ap (λ (g : Walk). g s e p) (fold-roll-Formula Walk walk_step (Formula-F.Not a))

  pub at_two : (f : Formula) (j : Junction) (a b : Formula) → f ≡ formula.Two j a b → walked f s e p ≡ junction_pass j (walked a) (walked b) s e p
  unfolding walked
  at_two f j a b is = ap (λ g. walked g s e p) (is ∙ two_is j a b) ∙ ap (λ (g : Walk). g s e p) (fold-roll-Formula Walk walk_step (Formula-F.Two j a b))

  pub at_quantified : (f : Formula) (q : Quantifier) (a : Ty) (t : Term) (b : Formula) → f ≡ formula.Quantified q a t b →
      walked f s e p ≡ quantified_pass q a t (walked b) s e p
  unfolding walked
  at_quantified f q a t b is =
      ap (λ g. walked g s e p) (is ∙ quantified_is q a t b) ∙ ap (λ (g : Walk). g s e p) (fold-roll-Formula Walk walk_step (Formula-F.Quantified q a t b))
