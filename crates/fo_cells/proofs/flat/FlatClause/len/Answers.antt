use Rattle.std.proofs.Common.{◌≡◌, length, arith}
use Rattle.fo_cells.proofs.Literals.{len_is}
use Rattle.fo_cells.proofs.flat.FlatClause.len.Goals as goal

pub returns : goal.returns
returns c =
    let v = c.self.inside in
    let n : c.len.result ≡ length v.places.items = omega (arith, c.len.ensures, v.places.ok.0) in
    len_is v.cells v.places.items c.args.self.now c.len.result c.self.view_is n
