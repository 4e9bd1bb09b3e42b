use Rattle.std.proofs.Common.{◌≡◌, ◌<◌, ◌^◌, ◌∙◌, ap, length, map, sym, subst}
use Rattle.std.proofs.lemmas.List.{length-map}
use Rattle.sledge_engine.specs.Choice.{chosen, has_name}
use Rattle.slot_work.specs.Visible.{places_from}
use Rattle.sledge_engine.specs.inner.Asked.{said}
use Rattle.slot_work.proofs.Few.{few_seen}
use Rattle.sledge_engine.proofs.metis.answer_visible.Goals as goal

pub choose-requires : goal.choose-requires
choose-requires c =
    let a = c.args.asked.now in
    subst (λ n. n < 2 ^ 32) (sym (ap length c.requires.asked.facts) ∙ length-map a.facts.now (λ f. f.now)) (few_seen a.theory.now a.goal)

pub replay_named-requires-clause-numbers : goal.replay_named-requires-clause-numbers
replay_named-requires-clause-numbers c =
    c.in_ok-numbers.ensures ∙ ap (places_from 0 (has_name (said c.args.asked.now))) c.requires.asked.facts
