use Rattle.std.proofs.Common.{sym, subst}
use Rattle.formula_clauses.specs.declared.counting.Counts.{Counts}
use Rattle.formula_clauses.specs.Walks.{walked}
use Rattle.formula_clauses.specs.inner.Counts.{CountedBoth}
use Rattle.formula_clauses.proofs.Lengths.{true_counted, false_counted, atom_counted, not_counted, two_counted, quantified_counted}
use Rattle.formula_clauses.proofs.counting.+count.Goals as goal

pub returns-in-True : goal.returns-in-True
returns-in-True t c = true_counted c.args.f.now c.in-True.is

pub returns-in-False : goal.returns-in-False
returns-in-False t c = false_counted c.args.f.now c.in-False.is

pub returns-in-Atom : goal.returns-in-Atom
returns-in-Atom t c = atom_counted c.args.f.now c.in-Atom.field-0 c.in-Atom.is

pub returns-in-Not : goal.returns-in-Not
returns-in-Not t c =
    not_counted c.args.f.now c.in-Not.a c.count-inner.result c.in-Not.is (subst (λ f. CountedBoth (walked f) c.count-inner.result) c.get.ensures c.count-inner.ensures)

pub returns-in-Two : goal.returns-in-Two
returns-in-Two t c =
    subst (λ (n : Counts). CountedBoth (walked c.args.f.now) n) (sym c.of_junction.ensures)
    (two_counted c.args.f.now c.in-Two.junction c.in-Two.a c.in-Two.b c.count.result c.count-in-Two.result c.in-Two.is
    (subst (λ f. CountedBoth (walked f) c.count.result) c.get-in-Two.ensures c.count.ensures)
    (subst (λ f. CountedBoth (walked f) c.count-in-Two.result) c.get-in-Two-2.ensures c.count-in-Two.ensures))

pub returns-in-Quantified : goal.returns-in-Quantified
returns-in-Quantified t c =
    quantified_counted c.args.f.now c.in-Quantified.field-0 c.in-Quantified.field-1 c.in-Quantified.field-2 c.in-Quantified.b c.count-in-Quantified.result c.in-Quantified.is
    (subst (λ f. CountedBoth (walked f) c.count-in-Quantified.result) c.get-in-Quantified.ensures c.count-in-Quantified.ensures)
