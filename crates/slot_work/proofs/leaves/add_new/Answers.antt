use Rattle.std.proofs.Common.{◌∙◌, sym, ap}
use Rattle.std.specs.Prelude.{is_some}
use Rattle.slot_work.proofs.Lookups.{adds_none, placed}
use Rattle.slot_work.proofs.leaves.add_new.Goals as goal

pub returns-in-Some : goal.returns-in-Some
returns-in-Some c =
    let table = c.args.table.now in
    let name = c.args.name.now in
    adds_none table name (sym (placed table name) ∙ ap is_some (sym c.place.ensures.place ∙ c.in-Some.is))
