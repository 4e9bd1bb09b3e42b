use Rattle.std.proofs.Common.{ℕ, ◌∙◌, ap, refl}
use Rattle.mepo_filter.specs.Scores.{weight, weight_among}
use Rattle.mepo_filter.specs.Mepo.{candidates}
use Rattle.mepo_filter.specs.declared.round.State.{State}
use Rattle.mepo_filter.specs.inner.Places.{candidates_at}
use Rattle.mepo_filter.proofs.Whole.{whole}
use Rattle.mepo_filter.proofs.selection.select_with.Goals as goal

pub returns : goal.returns
returns g c =
    let of_theory = c.in_ok-flat.ensures.candidates ∙ ap (λ v. candidates c.args.theory.now v c.args.goal) c.as_slice.ensures in
    let start : State = record { relevant = c.in_ok-of_goal.field-0; mark = c.args.slice.now.mark; left = c.into_vec.result; chosen = c.new.result } in
    whole c.args.theory.now c.args.visible.now c.args.goal c.args.slice.now _ c.len-count.result c.as_slice-2.result.now start c.in_ok-chosen.chosen
    c.in_ok-chosen.ensures
    (c.in_ok-weights.ensures ∙ ap (λ (f : ℕ → ℕ). λ (d : ℕ). weight (f d)) c.in_ok-flat.ensures.sound.counted ∙ ap weight_among of_theory)
    c.len-count.ensures c.in_ok-of_goal.ensures refl
    (ap (candidates_at c.as_slice-2.result.now) c.into_vec.ensures ∙ ap (λ f. candidates_at f c.in_ok-flat.field-0.places) c.as_slice-2.ensures ∙ of_theory)
