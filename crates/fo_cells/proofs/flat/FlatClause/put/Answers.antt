use Rattle.std.proofs.Common.{◌++◌, [], ◌∷◌, ap, ◌∙◌}
use Rattle.fo_cells.specs.inner.Seen.{literals_of}
use Rattle.fo_cells.proofs.Literals.{whole, seen, pushed_as}
use Rattle.fo_cells.proofs.flat.FlatClause.put.Goals as goal

pub invariant_of-self-in-Ok : goal.invariant_of-self-in-Ok
invariant_of-self-in-Ok c =
    let v = c.self.inside in
    let l = c.requires.0 in
    whole c.append_both.new.self c.push.new.self.items (literals_of v.cells v.places.items ++ l ∷ [])
    (pushed_as v.cells c.append_both.new.self (c.args.left.now ++ c.args.right.now) v.places.items c.push.new.self.items c.args.positive c.args.equation c.len-start.result c.len.result l
    c.self.invariant c.requires.1 c.in_ok-append_both.ensures.ok c.len-start.ensures c.len.ensures c.in-Ok.ensures.items)

pub returns-in-Ok-clause-ok : goal.returns-in-Ok-clause-ok
returns-in-Ok-clause-ok c = λ l made.
    let v = c.self.inside in
    seen c.append_both.new.self c.push.new.self.items (literals_of v.cells v.places.items ++ l ∷ [])
    (pushed_as v.cells c.append_both.new.self (c.args.left.now ++ c.args.right.now) v.places.items c.push.new.self.items c.args.positive c.args.equation c.len-start.result c.len.result l
    c.self.invariant made c.in_ok-append_both.ensures.ok c.len-start.ensures c.len.ensures c.in-Ok.ensures.items)
    ∙ ap (λ ls. ls ++ l ∷ []) c.self.view_is
