use Rattle.std.proofs.Common.{◌≤◌, length, arith}
use Rattle.fo_terms.specs.declared.literal.Literal.{Literal}
use Rattle.pair_marks.specs.Marking.{HasAtomParts}
use Rattle.pair_marks.proofs.Growing.{atom_parts_grown, more_grown, all_at}
use Rattle.pair_marks.proofs.gathering.parts_of.Goals as goal

pub loop-l-preserved : goal.loop-l-preserved
loop-l-preserved c =
    let plain = c.args.plain in
    let old = c.loop-l.all in
    let new = c.with_atom_parts-all.result in
    more_grown (λ (l : Literal). HasAtomParts plain old l.atom) (λ (l : Literal). HasAtomParts plain new l.atom) c.args.literals.now c.loop-l.l-index c.l-item.result c.l-item.result c.l-item.is (λ l. atom_parts_grown plain old new c.with_atom_parts-all.ensures.kept l.atom)
    c.with_atom_parts-all.ensures.parts c.loop-l.invariant

pub returns : goal.returns
returns c = let over : length c.args.literals.now ≤ c.loop-l.l-index = omega arith in all_at (λ (l : Literal). HasAtomParts c.args.plain c.loop-l.all l.atom) c.args.literals.now c.loop-l.l-index over c.loop-l.invariant
