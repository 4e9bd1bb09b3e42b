use Rattle.std.proofs.Common.{◌++◌, map, subst, sym}
use Rattle.theory_reader.specs.Sound.{fact_names}
use Rattle.sledge_engine.specs.Choice.{names_at}
use Rattle.sledge_engine.specs.Metis.{GoalReply, proved, saturated, shown, spent}
use Rattle.sledge_engine.specs.Texts.{metis_text, saturated_text, spent_text}
use Rattle.sledge_engine.specs.inner.Asked.{IsReplayed, said}
use Rattle.sledge_engine.proofs.Replying.{reply_with}
use Rattle.sledge_engine.proofs.metis.report.Goals as goal

pub returns-in-Proved : goal.returns-in-Proved
returns-in-Proved c =
    let a = c.args.asked.now in
    let t = a.theory.now in
    let p = c.in-Proved.proven in
    let replayed = subst (IsReplayed a) c.in-Proved.is c.requires.replayed in
    reply_with (GoalReply t a.goal (said a) a.budget a.shows) c.put_proved.result 0
    (metis_text (names_at (fact_names (map (λ f. f.now) a.facts.now)) p.names) ++ shown a.shows t a.goal p.steps) c.put_proved.new.text
    (subst (λ fs. GoalReply t a.goal (said a) a.budget a.shows 0 (metis_text (names_at (fact_names fs) p.names) ++ shown a.shows t a.goal p.steps)) (sym c.requires.asked.facts)
    (proved a.env.now p c.requires.visible c.requires.asked.env replayed)) c.put_proved.ensures

pub returns-in-Saturated : goal.returns-in-Saturated
returns-in-Saturated c =
    let a = c.args.asked.now in
    let replayed = subst (IsReplayed a) c.in-Saturated.is c.requires.replayed in
    reply_with (GoalReply a.theory.now a.goal (said a) a.budget a.shows) c.put_unproved.result 1 saturated_text c.put_unproved.new.text
    (saturated a.env.now c.requires.visible c.requires.asked.env replayed) c.put_unproved.ensures

pub returns-in-Spent : goal.returns-in-Spent
returns-in-Spent c =
    let a = c.args.asked.now in
    let replayed = subst (IsReplayed a) c.in-Spent.is c.requires.replayed in
    reply_with (GoalReply a.theory.now a.goal (said a) a.budget a.shows) c.put_unproved-in-Spent.result 1 spent_text c.put_unproved-in-Spent.new.text
    (spent a.env.now c.requires.visible c.requires.asked.env replayed) c.put_unproved-in-Spent.ensures
