use Rattle.std.proofs.Common.{◌≡◌, ◌<◌, ◌++◌, [], ◌∷◌, refl, sym, ap, ◌∙◌}
use Rattle.fo_terms.specs.Weight.{literal_size}
use Rattle.fo_cells.specs.Cells.{atom_cells}
use Rattle.fo_cells.specs.inner.Seen.{literals_of, AreOf, IsMadeOf}
use Rattle.fo_cells.proofs.Literals.{whole, seen, pushed_as}
use Rattle.fo_cells.proofs.Written.{match_true}
use Rattle.fo_cells.proofs.flat.FlatClause.push.Goals as goal

pushed : (c : goal.In-Ok) → AreOf c.put_atom.new.out c.push.new.self.items (literals_of c.self.inside.cells c.self.inside.places.items ++ c.args.l.now ∷ [])
pushed c =
    let v = c.self.inside in
    let l = c.args.l.now in
    let made : IsMadeOf l c.args.l.now.positive c.is_equality.result (atom_cells l.atom) = record { sign = refl; kind = sym c.is_equality.ensures; cells_are = refl } in
    let written : c.put_atom.new.out ≡ v.cells ++ atom_cells l.atom =
    match_true c.in_ok-put_atom.field-0 (c.put_atom.new.out ≡ v.cells ++ atom_cells l.atom) ((65535 < literal_size l) × (c.put_atom.new.out ≡ v.cells)) c.if-not-branch.false c.in_ok-put_atom.ensures.written in
    pushed_as v.cells c.put_atom.new.out (atom_cells l.atom) v.places.items c.push.new.self.items l.positive c.is_equality.result c.len-start.result c.len.result l
    c.self.invariant made written c.len-start.ensures c.len.ensures c.in-Ok.ensures.items

pub invariant_of-self-in-Ok : goal.invariant_of-self-in-Ok
invariant_of-self-in-Ok c =
    let v = c.self.inside in
    whole c.put_atom.new.out c.push.new.self.items (literals_of v.cells v.places.items ++ c.args.l.now ∷ []) (pushed c)

pub returns-in-Ok-clause-ok : goal.returns-in-Ok-clause-ok
returns-in-Ok-clause-ok c =
    let v = c.self.inside in
    seen c.put_atom.new.out c.push.new.self.items (literals_of v.cells v.places.items ++ c.args.l.now ∷ []) (pushed c) ∙ ap (λ ls. ls ++ c.args.l.now ∷ []) c.self.view_is
