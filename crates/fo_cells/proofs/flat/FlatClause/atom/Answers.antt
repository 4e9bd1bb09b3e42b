use Rattle.std.proofs.Common.{◌<◌, ◌≤◌, ◌-◌, length, take, drop, sym, ap, subst, ◌∙◌, arith}
use Rattle.fo_cells.proofs.Lists.{some_at}
use Rattle.fo_cells.proofs.Literals.{within_is, placed}
use Rattle.fo_cells.proofs.flat.FlatClause.atom.Goals as goal

pub index-place-requires : goal.index-place-requires
index-place-requires c =
    let v = c.self.inside in
    let h : c.args.at < length v.places.items = within_is v.cells v.places.items c.args.self.now c.args.at c.self.view_is c.requires in
    omega (arith, v.places.ok.0)

pub part-requires : goal.part-requires
part-requires c =
    let v = c.self.inside in
    let l = some_at c.args.self.now c.args.at c.requires in
    let p = placed v.cells v.places.items c.args.self.now c.self.invariant c.self.view_is c.args.at c.index-place.result.now l.0 c.requires c.index-place.ensures l.1 in
    record {
      ordered = p.ordered;
      within = subst (λ k. c.index-place.result.now.end ≤ length k) (sym c.as_slice.ensures) p.within;
    }

pub returns : goal.returns
returns c = λ l there.
    let v = c.self.inside in
    let p = placed v.cells v.places.items c.args.self.now c.self.invariant c.self.view_is c.args.at c.index-place.result.now l c.requires c.index-place.ensures there in
    c.part.ensures ∙ ap (λ k. take (c.index-place.result.now.end - c.index-place.result.now.start) (drop c.index-place.result.now.start k)) c.as_slice.ensures ∙ p.part
