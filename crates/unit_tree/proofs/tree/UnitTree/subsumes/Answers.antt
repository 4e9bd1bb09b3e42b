use Rattle.std.proofs.Common.{refl, sym, ◌∙◌, arith}
use Rattle.fo_cells.proofs.Lists.{some_at}
use Rattle.fo_terms.specs.Normal.{atom_terms}
use Rattle.fo_cells.proofs.Rows.{never, row_of}
use Rattle.unit_tree.proofs.Units.{reach_one, hit, not_more, none_at_all}
use Rattle.unit_tree.proofs.tree.UnitTree.subsumes.Goals as goal

pub is_reached-requires-clause-row : goal.is_reached-requires-clause-row
is_reached-requires-clause-row c =
    let m = some_at c.args.c.now c.loop-i.i (omega arith) in
    (atom_terms m.0.atom, row_of m.0.atom ∙ sym (c.atom.ensures m.0 m.1))

pub returns-then-is_reached : goal.returns-then-is_reached
returns-then-is_reached c =
    let m = some_at c.args.c.now c.loop-i.i (omega arith) in
    let says = reach_one c.args.self.now c.as_slice.result.now m.0 c.is_positive.result c.is_equation.result c.atom.result.now c.is_reached.result (c.as_slice.ensures.value ∙ c.self.view_is)
    (c.is_positive.ensures m.0 m.1) (c.is_equation.ensures m.0 m.1) (c.atom.ensures m.0 m.1) c.is_reached.ensures in
    (λ h. hit c.args.self.now c.args.c.now c.loop-i.i m.0 (omega arith) m.1 (says.0 c.if-is_reached.true), λ h. refl)

pub loop-i-preserved : goal.loop-i-preserved
loop-i-preserved c =
    let m = some_at c.args.c.now c.loop-i.i (omega arith) in
    let says = reach_one c.args.self.now c.as_slice.result.now m.0 c.is_positive.result c.is_equation.result c.atom.result.now c.is_reached.result (c.as_slice.ensures.value ∙ c.self.view_is)
    (c.is_positive.ensures m.0 m.1) (c.is_equation.ensures m.0 m.1) (c.atom.ensures m.0 m.1) c.is_reached.ensures in
    not_more c.args.self.now c.args.c.now c.loop-i.i m.0 m.1 c.loop-i.invariant (λ one. never (sym c.if-is_reached.false ∙ says.1 one))

pub returns : goal.returns
returns c = (λ h. never h, λ h. absurd (none_at_all c.args.self.now c.args.c.now c.loop-i.i (omega arith) c.loop-i.invariant h))
