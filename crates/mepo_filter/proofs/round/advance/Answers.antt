use Rattle.std.proofs.Common.{◌∙◌, ap, sym, length, map, filter, not, ◌++◌, List}
use Rattle.std.specs.Prelude.{◌==◌}
use Rattle.std.proofs.lemmas.List.Elements.{All-same}
use Rattle.mepo_filter.specs.declared.placing.Scored.{Scored}
use Rattle.mepo_filter.specs.declared.round.State.{State}
use Rattle.mepo_filter.specs.Scores.{reaches}
use Rattle.mepo_filter.specs.Ranking.{ranked}
use Rattle.mepo_filter.specs.Rounds.{joined}
use Rattle.mepo_filter.specs.inner.Tables.{is_in, weight_in}
use Rattle.mepo_filter.specs.inner.Places.{IsWithin, scored_at}
use Rattle.mepo_filter.specs.inner.Steps.{chosen_of, candidate_of}
use Rattle.mepo_filter.proofs.RoundLemmas.{went, stopped, taken_within}
use Rattle.mepo_filter.proofs.round.advance.Goals as goal

pub returns-then-is_empty : goal.returns-then-is_empty
returns-then-is_empty g c =
    stopped (weight_in c.args.weights.now) c.args.flat.now c.args.number c.args.state.now c.in_ok-scored.scored.items c.in_ok-taken.taken.items
    (c.in_ok-scored.ensures ∙ ap (map (scored_at (weight_in c.args.weights.now) (is_in c.args.state.now.relevant) c.args.flat.now)) c.deref.ensures.value)
    (c.in_ok-taken.ensures ∙ ap (filter (λ (s : Scored). reaches c.args.state.now.mark s.score)) c.deref-2.ensures.value)
    (ap (λ (l : List Scored). length l == 0) (sym c.as_slice.ensures.value) ∙ sym c.is_empty.ensures ∙ c.if-is_empty.true)

pub join-requires : goal.join-requires
join-requires g c =
    All-same (λ s. IsWithin (length c.args.flat.now) s.place) _ _ c.deref-4.ensures.value
    (taken_within (weight_in c.args.weights.now) c.args.flat.now c.args.number c.args.state.now c.in_ok-scored.scored.items c.in_ok-taken.taken.items
    (c.in_ok-scored.ensures ∙ ap (map (scored_at (weight_in c.args.weights.now) (is_in c.args.state.now.relevant) c.args.flat.now)) c.deref.ensures.value)
    (c.in_ok-taken.ensures ∙ ap (filter (λ (s : Scored). reaches c.args.state.now.mark s.score)) c.deref-2.ensures.value)
    c.requires.ready)

pub returns-in-Ok : goal.returns-in-Ok
returns-in-Ok g c =
    let new : State = record { relevant = c.join.new.relevant; mark = c.raised-state.result; left = c.in_ok-state.field-0; chosen = c.extend_from_slice.new.self } in
    went (weight_in c.args.weights.now) c.args.flat.now c.args.number c.args.state.now c.in_ok-scored.scored.items c.in_ok-taken.taken.items
    (c.in_ok-scored.ensures ∙ ap (map (scored_at (weight_in c.args.weights.now) (is_in c.args.state.now.relevant) c.args.flat.now)) c.deref.ensures.value)
    (c.in_ok-taken.ensures ∙ ap (filter (λ (s : Scored). reaches c.args.state.now.mark s.score)) c.deref-2.ensures.value)
    c.args.slice.now new
    (ap (λ (l : List Scored). length l == 0) (sym c.as_slice.ensures.value) ∙ sym c.is_empty.ensures ∙ c.if-is_empty.false)
    (c.in-Ok.ensures.items ∙ ap (λ l. c.args.state.now.chosen.items ++ l) (c.deref-6.ensures.value ∙ c.in_ok-rank.ensures
    ∙ ap ranked (c.in_ok-chosen.ensures ∙ ap (map (chosen_of c.args.number)) c.deref-3.ensures.value)))
    (c.in_ok-join.ensures ∙ ap (λ l. joined (is_in c.args.state.now.relevant) (map (candidate_of c.args.flat.now) l)) c.deref-4.ensures.value)
    (c.in_ok-state.ensures ∙ ap (λ (l : List Scored). map (λ s. s.place) (filter (λ s. not (reaches c.args.state.now.mark s.score)) l)) c.deref-5.ensures.value)
    c.raised-state.ensures.value c.raised-state.ensures.within c.requires.ready
