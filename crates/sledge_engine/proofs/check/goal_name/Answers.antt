use Rattle.std.proofs.Common.{◌∙◌, [], ap, sym}
use Rattle.std.specs.Prelude.{unwrap_or}
use Rattle.sledge_engine.proofs.Items.{get_map}
use Rattle.sledge_engine.proofs.check.goal_name.Goals as goal

pub returns : goal.returns
returns c =
    let goals = c.args.theory.now.goals in
    let g = c.at.result.now in
    c.as_slice.ensures ∙ sym (ap (λ o. unwrap_or o []) (get_map (λ h. h.name) goals c.args.goal g c.at.ensures))
