use Rattle.std.proofs.Common.{◌∙◌, ap}
use Rattle.std.specs.Prelude.{is_some}
use Rattle.sledge_engine.proofs.Lookups.{placed}
use Rattle.sledge_engine.proofs.tables.is_in.Goals as goal

pub returns : goal.returns
returns c = c.is_some.ensures ∙ ap is_some c.place.ensures.place ∙ placed c.args.table.now c.args.name.now
