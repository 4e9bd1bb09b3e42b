use Rattle.std.proofs.Common.{sym, subst}
use Rattle.goal_search.specs.Fitting.{CanSearch}
use Rattle.slot_work.specs.Replays.{From, outcome_of}
use Rattle.sledge_engine.specs.inner.Asked.{IsReplayed, said}
use Rattle.sledge_engine.proofs.Replying.{if_ok_map}
use Rattle.sledge_engine.proofs.Sublists.{chosen_can}
use Rattle.sledge_engine.proofs.metis.replay_named.Goals as goal

pub replay_facts-requires : goal.replay_facts-requires
replay_facts-requires c =
    let a = c.args.asked.now in
    let is = c.requires.asked in
    subst (CanSearch a.env.now) (sym c.requires.numbers) (chosen_can a.theory.now a.goal a.env.now (said a) is.env is.fits c.requires.visible)

pub returns : goal.returns
returns c =
    let a = c.args.asked.now in
    if_ok_map c.replay_facts.result (λ r. From a.env.now c.args.numbers.now a.budget (outcome_of r)) (IsReplayed a)
    (λ r h. subst (λ n. From a.env.now n a.budget (outcome_of r)) c.requires.numbers h) c.replay_facts.ensures
