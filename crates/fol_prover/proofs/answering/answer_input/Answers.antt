use Rattle.std.proofs.Common.{◌≤◌, List, ℕ, length, sym, subst}
use Rattle.fol_prover.specs.Texts.{error_text}
use Rattle.fol_prover.specs.Proving.{Proves}
use Rattle.fol_prover.specs.Replies.{Reply, WereLeft, most_bytes, answer, too_long, failed}
use Rattle.fol_prover.specs.inner.Reading.{IsInput}
use Rattle.fol_prover.proofs.Ends.{end_with, if_ok_map}
use Rattle.fol_prover.proofs.answering.answer_input.Goals as goal

pub returns-in-Whole : goal.returns-in-Whole
returns-in-Whole c = λ words i asked given.
    let g = subst (IsInput i) c.in-Whole.is given in
    let bytes = c.as_slice.result.now in
    let few : length bytes ≤ most_bytes = subst (λ (l : List ℕ). length l ≤ most_bytes) (sym c.as_slice.ensures) g.1 in
    if_ok_map c.answer_bytes.result (λ e. Proves bytes c.args.asked.budget c.args.asked.age e.status e.text) (λ e. Reply words i e.status e.text)
    (λ e h. answer c.args.asked.budget c.args.asked.age bytes asked (subst (WereLeft i.left) (sym c.as_slice.ensures) g.0) few h) (c.answer_bytes.ensures few)

pub returns-in-TooLong : goal.returns-in-TooLong
returns-in-TooLong c = λ words i asked given.
    end_with (Reply words i) c.refused.result 3 error_text (too_long c.args.asked.budget c.args.asked.age asked (subst (IsInput i) c.in-TooLong.is given)) c.refused.ensures

pub returns-in-Failed : goal.returns-in-Failed
returns-in-Failed c = λ words i asked given.
    end_with (Reply words i) c.refused-in-Failed.result 3 error_text (failed c.args.asked.budget c.args.asked.age asked (subst (IsInput i) c.in-Failed.is given)) c.refused-in-Failed.ensures
