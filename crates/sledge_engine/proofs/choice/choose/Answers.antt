use Rattle.std.proofs.Common.{◌≡◌, ◌∙◌, map}
use Rattle.sledge_engine.specs.Choice.{has_name}
use Rattle.slot_work.specs.Visible.{places_from}
use Rattle.sledge_engine.proofs.Replying.{if_ok_map}
use Rattle.sledge_engine.proofs.Lookups.{same_places}
use Rattle.sledge_engine.proofs.choice.choose.Goals as goal

pub returns : goal.returns
returns c =
    let facts = map (λ f. f.now) c.args.facts.now in
    let words = map (λ w. w.now) c.args.words.now in
    let table = c.in_ok-table.table in
    if_ok_map c.choose_from.result (λ numbers. numbers ≡ places_from 0 (has_name table) facts) (λ numbers. numbers ≡ places_from 0 (has_name words) facts)
    (λ numbers h. h ∙ same_places words table c.in_ok-table.ensures 0 facts) c.choose_from.ensures
