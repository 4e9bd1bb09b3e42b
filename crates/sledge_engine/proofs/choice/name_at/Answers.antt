use Rattle.std.proofs.Common.{◌<◌, ◌∙◌, [], ap, length, sym}
use Rattle.sledge_engine.proofs.Items.{from_test, get_both}
use Rattle.sledge_engine.proofs.choice.name_at.Goals as goal

pub returns-in-Some : goal.returns-in-Some
returns-in-Some c =
    let facts = c.args.facts.now in
    let found = c.in-Some.ensures.lookup in
    let within : c.args.number < length facts = from_test c.args.number (length facts) found.0 in
    c.as_slice.ensures ∙ ap (λ f. f.now.name) found.1 ∙ sym (get_both (λ f. f.now) (λ f. f.name) facts c.args.number c.in-Some.fact.now [] within)
