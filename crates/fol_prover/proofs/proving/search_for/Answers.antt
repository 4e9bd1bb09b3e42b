use Rattle.std.proofs.Common.{◌∙◌}
use Rattle.fol_prover.specs.Texts.{gave_up_text}
use Rattle.fol_prover.specs.Proving.{IsAnswer, is_saturated, is_spent}
use Rattle.fol_prover.proofs.Ends.{end_with, saturates, spends}
use Rattle.fol_prover.proofs.proving.search_for.Goals as goal

pub returns-in-Saturated : goal.returns-in-Saturated
returns-in-Saturated c =
    let p = c.args.problem.now in
    let h = c.in-Saturated.ensures in
    end_with (IsAnswer p c.args.budget c.args.age) c.gave_up.result 1 gave_up_text
    (is_saturated c.requires.fits (saturates p c.args.budget c.args.age c.turn.new.self c.args.split.inputs c.requires.inputs (h.given ∙ c.in_ok-search.ensures.given) h.stands h.answer)) c.gave_up.ensures

pub returns-in-Spent : goal.returns-in-Spent
returns-in-Spent c =
    let p = c.args.problem.now in
    let h = c.in-Spent.ensures in
    end_with (IsAnswer p c.args.budget c.args.age) c.gave_up-in-Spent.result 1 gave_up_text
    (is_spent c.requires.fits (spends p c.args.budget c.args.age c.turn.new.self c.args.split.inputs c.requires.inputs (h.given ∙ c.in_ok-search.ensures.given) h.stands h.answer)) c.gave_up-in-Spent.ensures
