use Rattle.std.proofs.Common.{◌∙◌}
use Rattle.slot_work.proofs.Finding.{is_proof}
use Rattle.slot_work.proofs.Turning.{proved_answer}
use Rattle.slot_work.proofs.turns.proof_outcome.Goals as goal

pub returns-in-Ok-proven : goal.returns-in-Ok-proven
returns-in-Ok-proven c =
    let s = c.args.slot.now in
    let p = c.in-Ok-proven.proof in
    proved_answer s c.requires.slot c.args.used.now p c.requires.used c.requires.found.found
    (is_proof s.env c.args.used.now s.budget c.args.kept.now p c.requires.sublist c.requires.minimal (c.in-Ok-proven.ensures.names ∙ c.in-Ok.ensures) c.in-Ok-proven.ensures.proves
    (c.in-Ok-proven.ensures.leaves ∙ c.in-Ok.ensures))
