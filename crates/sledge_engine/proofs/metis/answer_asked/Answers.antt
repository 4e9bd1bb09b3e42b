use Rattle.std.proofs.Common.{subst, sym}
use Rattle.std.specs.Prelude.{MatchOption}
use Rattle.sledge_engine.specs.Choice.{AllVisible, IsFirstHidden}
use Rattle.sledge_engine.specs.Metis.{GoalReply, hidden}
use Rattle.sledge_engine.specs.Texts.{fact_text}
use Rattle.sledge_engine.specs.inner.Asked.{said}
use Rattle.sledge_engine.specs.inner.Visible.{IsSeen}
use Rattle.sledge_engine.proofs.Fitted.{as_many}
use Rattle.sledge_engine.proofs.Replying.{reply_with}
use Rattle.sledge_engine.proofs.metis.answer_asked.Goals as goal

pub first_hidden-requires : goal.first_hidden-requires
first_hidden-requires c =
    let a = c.args.asked.now in
    as_many a.theory.now a.goal a.env.now c.requires.asked.env c.in_ok-names.names c.in_ok-names.ensures

pub answer_visible-requires-clause-visible : goal.answer_visible-requires-clause-visible
answer_visible-requires-clause-visible c =
    let a = c.args.asked.now in
    let t = a.theory.now in
    let seen : IsSeen t a.goal a.env.now c.in_ok-names.names = record { env = c.requires.asked.env; names_are = c.in_ok-names.ensures } in
    subst (λ o. MatchOption o (AllVisible t a.goal (said a)) (λ w. IsFirstHidden t a.goal (said a) w.now)) c.in-None.is (c.in_ok-name.ensures t a.goal seen)

pub returns-in-Some : goal.returns-in-Some
returns-in-Some c =
    let a = c.args.asked.now in
    let t = a.theory.now in
    let seen : IsSeen t a.goal a.env.now c.in_ok-names.names = record { env = c.requires.asked.env; names_are = c.in_ok-names.ensures } in
    let first = subst (λ o. MatchOption o (AllVisible t a.goal (said a)) (λ w. IsFirstHidden t a.goal (said a) w.now)) c.in-Some.is (c.in_ok-name.ensures t a.goal seen) in
    reply_with (GoalReply t a.goal (said a) a.budget a.shows) c.put_refusal.result 2 (fact_text c.as_bytes.result.now) c.put_refusal.new.text
    (hidden c.as_bytes.result.now (subst (IsFirstHidden t a.goal (said a)) (sym c.as_bytes.ensures.value) first)) c.put_refusal.ensures
