use Rattle.std.proofs.Common.{◌∙◌, ap}
use Rattle.std.specs.Prelude.{is_some}
use Rattle.slot_work.proofs.Lookups.{placed}
use Rattle.slot_work.proofs.leaves.is_in.Goals as goal

pub returns : goal.returns
returns c = c.is_some.ensures ∙ ap is_some c.place.ensures.place ∙ placed c.args.table.now c.args.name.now
