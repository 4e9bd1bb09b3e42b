use Rattle.std.proofs.Common.{◌∙◌}
use Rattle.fol_cnf.specs.inner.Counts.{or_of}
use Rattle.fol_cnf.proofs.Lengths.{true_counted, false_counted, atom_counted, not_counted, and_counted, or_counted, imp_counted, iff_counted, each_counted, one_counted, count_part, count_is}
use Rattle.fol_cnf.proofs.counting.+count.Goals as goal

pub returns-in-True : goal.returns-in-True
returns-in-True t c = true_counted c.args.f.now c.in-True.is

pub returns-in-False : goal.returns-in-False
returns-in-False t c = false_counted c.args.f.now c.in-False.is

pub returns-in-Atom : goal.returns-in-Atom
returns-in-Atom t c = atom_counted c.args.f.now c.in-Atom.field-0 c.in-Atom.is

pub returns-in-Not : goal.returns-in-Not
returns-in-Not t c =
    count_is c.args.f.now _ _ c.flipped.ensures (not_counted c.args.f.now c.in-Not.a c.count.result c.in-Not.is (count_part c.get.result.now c.in-Not.a c.count.result c.get.ensures c.count.ensures))

pub returns-in-And : goal.returns-in-And
returns-in-And t c =
    count_is c.args.f.now _ _ c.conjunction.ensures
    (and_counted c.args.f.now c.in-And.a c.in-And.b c.count-in-And.result c.count-in-And-2.result
    (count_part c.get-in-And.result.now c.in-And.a c.count-in-And.result c.get-in-And.ensures c.count-in-And.ensures)
    (count_part c.get-in-And-2.result.now c.in-And.b c.count-in-And-2.result c.get-in-And-2.ensures c.count-in-And-2.ensures)
    c.in-And.is)

pub returns-in-Or : goal.returns-in-Or
returns-in-Or t c =
    count_is c.args.f.now _ _ c.disjunction.ensures
    (or_counted c.args.f.now c.in-Or.a c.in-Or.b c.count-in-Or.result c.count-in-Or-2.result
    (count_part c.get-in-Or.result.now c.in-Or.a c.count-in-Or.result c.get-in-Or.ensures c.count-in-Or.ensures)
    (count_part c.get-in-Or-2.result.now c.in-Or.b c.count-in-Or-2.result c.get-in-Or-2.ensures c.count-in-Or-2.ensures)
    c.in-Or.is)

pub returns-in-Imp : goal.returns-in-Imp
returns-in-Imp t c =
    count_is c.args.f.now _ _ (c.disjunction-in-Imp.ensures ∙ (λ i. or_of (c.flipped-in-Imp.ensures i) c.count-in-Imp-2.result))
    (imp_counted c.args.f.now c.in-Imp.a c.in-Imp.b c.count-in-Imp.result c.count-in-Imp-2.result
    (count_part c.get-in-Imp.result.now c.in-Imp.a c.count-in-Imp.result c.get-in-Imp.ensures c.count-in-Imp.ensures)
    (count_part c.get-in-Imp-2.result.now c.in-Imp.b c.count-in-Imp-2.result c.get-in-Imp-2.ensures c.count-in-Imp-2.ensures)
    c.in-Imp.is)

pub returns-in-Iff : goal.returns-in-Iff
returns-in-Iff t c =
    count_is c.args.f.now _ _ c.equivalence.ensures
    (iff_counted c.args.f.now c.in-Iff.a c.in-Iff.b c.count-in-Iff.result c.count-in-Iff-2.result
    (count_part c.get-in-Iff.result.now c.in-Iff.a c.count-in-Iff.result c.get-in-Iff.ensures c.count-in-Iff.ensures)
    (count_part c.get-in-Iff-2.result.now c.in-Iff.b c.count-in-Iff-2.result c.get-in-Iff-2.ensures c.count-in-Iff-2.ensures)
    c.in-Iff.is)

pub returns-in-Each : goal.returns-in-Each
returns-in-Each t c =
    each_counted c.args.f.now c.in-Each.field-0 c.in-Each.b c.count-in-Each.result
    (count_part c.get-in-Each.result.now c.in-Each.b c.count-in-Each.result c.get-in-Each.ensures c.count-in-Each.ensures) c.in-Each.is

pub returns-in-One : goal.returns-in-One
returns-in-One t c =
    one_counted c.args.f.now c.in-One.field-0 c.in-One.b c.count-in-One.result
    (count_part c.get-in-One.result.now c.in-One.b c.count-in-One.result c.get-in-One.ensures c.count-in-One.ensures) c.in-One.is
