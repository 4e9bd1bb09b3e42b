use Rattle.std.proofs.Common.{◌<◌, length, arith}
use Rattle.fo_cells.proofs.Literals.{within_is, placed}
use Rattle.fo_cells.proofs.flat.FlatClause.is_equation.Goals as goal

pub index-requires : goal.index-requires
index-requires c =
    let v = c.self.inside in
    let h : c.args.at < length v.places.items = within_is v.cells v.places.items c.args.self.now c.args.at c.self.view_is c.requires in
    omega (arith, v.places.ok.0)

pub returns : goal.returns
returns c = λ l there.
    let v = c.self.inside in
    (placed v.cells v.places.items c.args.self.now c.self.invariant c.self.view_is c.args.at c.index.result.now l c.requires c.index.ensures there).kind
