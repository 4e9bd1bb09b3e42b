use Rattle.std.proofs.Common.{sym}
use Rattle.fo_index.proofs.shelves.Shelves.at.Goals as goal

pub index-requires : goal.index-requires
index-requires c = c.args.self.now.known c.args.key.now c.in-Some.number.now (sym c.in-Some.ensures.value)
