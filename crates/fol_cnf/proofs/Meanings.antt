-- What is known of each kind of formula.
use Rattle.std.proofs.Common.{◌≡◌, ℕ, sym, ap, ◌∙◌}
use Rattle.fo_terms.specs.declared.atom.Atom.{Atom}
use Rattle.fo_terms.specs.declared.formula.FoFormula as formula
use Rattle.fo_terms.specs.declared.formula.FoFormula.{FoFormula, roll-FoFormula}
use Rattle.fo_terms.specs.declared.formula.FoFormula.TheOpen.{FoFormula-F}
use Rattle.fo_terms.specs.declared.formula.FoFormula.TheFolds.{fold-roll-FoFormula}
use Rattle.fo_terms.specs.declared.formula.FoFormula.TheVariants as made
use Rattle.fol_cnf.specs.Walks.{Meaning, meaning_step, meaning}

pub means_true : (f : FoFormula) → f ≡ formula.True → meaning f ≡ meaning_step FoFormula-F.True
unfolding meaning
means_true f is = ap meaning (is ∙ sym made.rolls-True) ∙ fold-roll-FoFormula Meaning meaning_step FoFormula-F.True

pub means_false : (f : FoFormula) → f ≡ formula.False → meaning f ≡ meaning_step FoFormula-F.False
unfolding meaning
means_false f is = ap meaning (is ∙ sym made.rolls-False) ∙ fold-roll-FoFormula Meaning meaning_step FoFormula-F.False

pub means_atom : (f : FoFormula) (a : Atom) → f ≡ formula.Atom a → meaning f ≡ meaning_step (FoFormula-F.Atom a)
unfolding meaning
means_atom f a is = ap meaning (is ∙ sym (made.rolls-Atom a)) ∙ fold-roll-FoFormula Meaning meaning_step (FoFormula-F.Atom a)

pub means_not : (f : FoFormula) (a : FoFormula) → f ≡ formula.Not a → meaning f ≡ meaning_step (FoFormula-F.Not (meaning a))
unfolding meaning
means_not f a is = ap meaning (is ∙ sym (made.rolls-Not a)) ∙ fold-roll-FoFormula Meaning meaning_step (FoFormula-F.Not a)

pub means_and : (f : FoFormula) (a b : FoFormula) → f ≡ formula.And a b → meaning f ≡ meaning_step (FoFormula-F.And (meaning a) (meaning b))
unfolding meaning
means_and f a b is = ap meaning (is ∙ sym (made.rolls-And a b)) ∙ fold-roll-FoFormula Meaning meaning_step (FoFormula-F.And a b)

pub means_or : (f : FoFormula) (a b : FoFormula) → f ≡ formula.Or a b → meaning f ≡ meaning_step (FoFormula-F.Or (meaning a) (meaning b))
unfolding meaning
means_or f a b is = ap meaning (is ∙ sym (made.rolls-Or a b)) ∙ fold-roll-FoFormula Meaning meaning_step (FoFormula-F.Or a b)

pub means_imp : (f : FoFormula) (a b : FoFormula) → f ≡ formula.Imp a b → meaning f ≡ meaning_step (FoFormula-F.Imp (meaning a) (meaning b))
unfolding meaning
means_imp f a b is = ap meaning (is ∙ sym (made.rolls-Imp a b)) ∙ fold-roll-FoFormula Meaning meaning_step (FoFormula-F.Imp a b)

pub means_iff : (f : FoFormula) (a b : FoFormula) → f ≡ formula.Iff a b → meaning f ≡ meaning_step (FoFormula-F.Iff (meaning a) (meaning b))
unfolding meaning
means_iff f a b is = ap meaning (is ∙ sym (made.rolls-Iff a b)) ∙ fold-roll-FoFormula Meaning meaning_step (FoFormula-F.Iff a b)

pub means_each : (f : FoFormula) (x : ℕ) (b : FoFormula) → f ≡ formula.Each x b → meaning f ≡ meaning_step (FoFormula-F.Each x (meaning b))
unfolding meaning
means_each f x b is = ap meaning (is ∙ sym (made.rolls-Each x b)) ∙ fold-roll-FoFormula Meaning meaning_step (FoFormula-F.Each x b)

pub means_one : (f : FoFormula) (x : ℕ) (b : FoFormula) → f ≡ formula.One x b → meaning f ≡ meaning_step (FoFormula-F.One x (meaning b))
unfolding meaning
means_one f x b is = ap meaning (is ∙ sym (made.rolls-One x b)) ∙ fold-roll-FoFormula Meaning meaning_step (FoFormula-F.One x b)
