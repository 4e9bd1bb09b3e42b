use Rattle.std.proofs.Common.{◌∙◌}
use Rattle.hyp_sets.proofs.Answered.{if_ok_map}
use Rattle.theory_reader.specs.Seen.{seen}
use Rattle.slot_work.proofs.Turning.{same_used}
use Rattle.slot_work.proofs.using.used_facts.Goals as goal

pub returns : goal.returns
returns c =
    let t = c.args.theory.now in
    if_ok_map c.used_among.result _ _ (λ u e. e ∙ same_used t c.args.leaves.now c.in_ok-table.table c.in_ok-table.ensures 0 (seen t c.args.goal)) c.used_among.ensures
